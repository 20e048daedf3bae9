-- The first entry of a name, by its number. An entry is a name with what it is declared with.
use Rattle.std.specs.Prelude.{ℕ, List}
use Rattle.pddl_names.specs.Listings.{Typed, Signed}

-- the name of an entry
abbrev pub typed_name : Typed → List ℕ
typed_name entry = entry.0

abbrev pub signed_name : Signed → List ℕ
signed_name entry = entry.0
