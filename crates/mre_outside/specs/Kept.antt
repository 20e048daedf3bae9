-- What a shelf in memory keeps of the puts.
use Rattle.std.specs.Prelude.{ℕ, List, map}
use Rattle.mre_outside.specs.declared.memory_shelf.Kept.{Kept}

-- the name and the bytes of each put
abbrev pub kept_entries : List Kept → List (List ℕ × List ℕ)
kept_entries puts = map (λ kept. (kept.name, kept.bytes.items)) puts
