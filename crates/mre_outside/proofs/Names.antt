-- The bytes under the other names after a put.
use Rattle.std.proofs.Common.{◌≡◌, ◌≢◌, ℕ, false, cond, List, Some, ap, ◌∙◌}
use Rattle.std.proofs.lemmas.Bool.{false_from_ne_true}
use Rattle.std.proofs.lemmas.Map.Text.{is_eq-slice_cmp}
use Rattle.std.proofs.lemmas.Slice.Eq.{bytes_eq-Decides}
use Rattle.std.specs.Cmp.Lexicographic.{nat_list_cmp_total}
use Rattle.std.specs.FinMap as map
use Rattle.std.specs.Str.{bytes_eq}
use Rattle.mre_outside.specs.Shelves.{Files}

-- another name keeps its bytes
pub get-insert_other : (files : Files) (name bytes other : List ℕ) → other ≢ name → map.get (map.insert files name bytes) other ≡ map.get files other
get-insert_other files name bytes other differs =
    let apart : bytes_eq other name ≡ false = false_from_ne_true (bytes_eq other name) (λ same. differs ((bytes_eq-Decides other name).0 same)) in
    map.get-insert nat_list_cmp_total files name bytes other
    ∙ ap (λ b. cond b (Some bytes) (map.get files other)) (is_eq-slice_cmp other name ∙ apart)
