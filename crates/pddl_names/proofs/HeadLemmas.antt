-- A head is undeclared exactly where nothing says how many terms it is due to have.
use Rattle.std.proofs.Common.{◌≡◌, Bool, true, false, Some, None, Option, List, length, refl, sym, ap}
use Rattle.std.specs.Prelude.{not}
use Rattle.std.specs.Option.{is_some, option_map}
use Rattle.std.proofs.lemmas.Bool.{true≢false}
use Rattle.mre_base.specs.declared.text.Text.{Text}
use Rattle.pddl_text.specs.declared.place.Place.{Place}
use Rattle.pddl_names.specs.declared.role.Role.{Role}
use Rattle.pddl_names.specs.declared.role.Role.TheVariants as role
use Rattle.pddl_names.specs.declared.role.Word.{Word}
use Rattle.pddl_names.specs.Heads.{due_count, is_head}
use Rattle.pddl_names.specs.Listings.{Declared, first_of}
use Rattle.pddl_names.specs.Naming.{is_none, is_undeclared}

none_same : (o : Option (List Text)) → not (is_some (option_map length o)) ≡ is_none o
none_same None = refl
none_same (Some types) = refl

abbrev word : Role → Text → Place → Word
word r text at = record { role = r; text = text; at = at }

module _ (known : Declared) (before : List Word) (text : Text) (at : Place) (rest : List Word) where
  head_by : (r : Role) → is_head r ≡ true → not (is_some (due_count known (word r text at))) ≡ is_undeclared known before (word r text at) rest
  head_by (role.Head says) is = none_same (first_of known.predicates text)
  head_by role.Cost is = none_same (first_of known.functions text)
  head_by role.Value is = none_same (first_of known.functions text)
  head_by _ is = absurd (true≢false (sym is))

pub unknown_is : (known : Declared) (before : List Word) (w : Word) (rest : List Word) → is_head w.role ≡ true → not (is_some (due_count known w)) ≡ is_undeclared known before w rest
unknown_is known before w rest is = head_by known before w.text w.at rest w.role is

pub turned : (some none : Bool) → some ≡ not none → none ≡ not some
turned some true is = sym (ap not is)
turned some false is = sym (ap not is)
