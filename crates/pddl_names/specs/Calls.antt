-- Calls as keys: a call is the list of its function's name and the names of the objects.
use Rattle.std.specs.Prelude.{ℕ, ◌≡◌, Bool, true, false, List, ◌∷◌}
use Rattle.std.specs.BTreeMap.{BTreeMap, get}
use Rattle.std.specs.Cmp.Lexicographic.{pointwise, slice_cmp}
use Rattle.std.specs.declared.cmp.Ordering.{Ordering}
use Rattle.std.specs.Ordering.{on, nat_cmp}
use Rattle.std.specs.Str.{bytes_eq}
use Rattle.pddl_names.specs.declared.calls.Call.{Call}
use Rattle.pddl_names.specs.declared.role.Role.{Role}
use Rattle.pddl_names.specs.declared.role.Role.TheVariants as role
use Rattle.pddl_names.specs.declared.role.Word.{Word}
use Rattle.pddl_names.specs.Listings.{Signed}
use Rattle.pddl_names.specs.Tables.{first_value}

-- the names of a key
abbrev pub names_in : Call → List (List ℕ)
names_in key = key.words.items

-- keys in the order of their names
abbrev pub call_cmp : Call → Call → Ordering
call_cmp = on (λ t. t.words.items) (slice_cmp (slice_cmp nat_cmp))

-- the key is that of the call
abbrev pub is_call : Call → Signed → Bool
is_call key call = pointwise bytes_eq (names_in key) (call.0 ∷ call.1)

-- the table has the place of the first value with each call, among the words from a place on
abbrev pub AreCallsFrom : ℕ → List Word → BTreeMap Call ℕ → Type 0
AreCallsFrom from words table =
    (key : Call) → get call_cmp table key ≡ first_value (is_call key) from words

-- a word of this role is the function of a value
abbrev pub is_value_role : Role → Bool
is_value_role role.Value = true
is_value_role r = false
