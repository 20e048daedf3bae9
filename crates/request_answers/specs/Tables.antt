-- Printed forms of listed actions.
use Rattle.std.specs.Prelude.{ℕ, List, [], map, slice_index_or}

-- the printed forms with these numbers
abbrev pub forms_of : List (List ℕ) → List ℕ → List (List ℕ)
forms_of names numbers = map (λ number. slice_index_or names number []) numbers
