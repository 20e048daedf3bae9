-- The name of a file at its place.
use Rattle.std.proofs.Common.{◌≡◌, ℕ, List, [], slice_get, Some, sym, ◌∙◌}
use Rattle.std.proofs.lemmas.Option.{get_or_from_slice_get}
use Rattle.mre_top.specs.Reads.{name_at}

pub name_is : (names : List (List ℕ)) (file : ℕ) (item shown : List ℕ) → slice_get names file ≡ Some item → shown ≡ item → shown ≡ name_at names file
name_is names file item shown at e = e ∙ sym (get_or_from_slice_get names file item [] at)
