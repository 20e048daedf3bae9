-- Each rule of names, by the role of the word.
use Rattle.std.proofs.Common.{◌≡◌, ℕ, ◌+◌, ◌-◌, ◌&&◌, Bool, true, false, Some, None, Option, List, take, drop, refl, sym, ap, ◌∙◌, arith}
use Rattle.std.specs.Prelude.{not, slice_get}
use Rattle.std.specs.List.{list_any, between}
use Rattle.std.specs.Map.{lookup}
use Rattle.std.specs.Str.{bytes_eq}
use Rattle.pddl_form.specs.declared.parts.Owner.TheVariants as owner
use Rattle.pddl_names.specs.declared.kind.Kind.{Kind}
use Rattle.pddl_names.specs.declared.kind.Kind.TheVariants as kind
use Rattle.pddl_names.specs.declared.names.NameTable.{NameTable}
use Rattle.pddl_names.specs.declared.role.Role.{Role}
use Rattle.pddl_names.specs.declared.role.Role.TheVariants as role
use Rattle.pddl_names.specs.declared.role.Word.{Word}
use Rattle.pddl_names.specs.Kinds.{is_kind, is_once, declares, ArePlaces, first_place}
use Rattle.pddl_names.specs.Listings.{Declared, first_of, type_behind, terms_behind, number_behind, values_in, comes_back}
use Rattle.pddl_names.specs.Naming.{is_twice, is_cycle, is_again, is_other, is_other_number, same_call, same_sort, action_words}
use Rattle.pddl_names.specs.Numbers.{number_in}
use Rattle.pddl_names.specs.Tables.{first_before, is_increase_role}
use Rattle.pddl_names.proofs.AgainLemmas.{again_some, again_none, same_kind}

module _ (k : Kind) (words : List Word) (place : ℕ) (w : Word) (at : slice_get words place ≡ Some w) (once : is_once k ≡ true) (is : is_kind k w.role ≡ true) where
  again_by : (o : Option ℕ) → first_place k words w.text ≡ o → first_before o place ≡ is_again (take place words) w
  again_by None e = absurd (again_none k words place w at once is e)
  again_by (Some first) e = again_some k words place w at once is first e

  pub again_first : (table : NameTable) → ArePlaces k words table → first_before (number_in table w.text) place ≡ is_again (take place words) w
  again_first table places = ap (λ o. first_before o place) (places w.text) ∙ again_by (first_place k words w.text) refl

abbrev with_role : Role → Word → Word
with_role r w = record { role = r; text = w.text; at = w.at }

module _ (known : Declared) (words : List Word) (place : ℕ) (w : Word) (at : slice_get words place ≡ Some w) where
  abbrev rest : List Word
  rest = drop (place + 1) words

  abbrev front : List Word
  front = take place words

  -- a test of a word whose role is known
  by_role : {X : Type 0} (f : Word → X) (r : Role) → w.role ≡ r → f (with_role r w) ≡ f w
  by_role f r is i = f (with_role (sym is i) w)

  pub twice_type : w.role ≡ role.ListedType → is_other (first_of known.types w.text) (type_behind rest) ≡ is_twice known front w rest
  twice_type is = by_role (λ v. is_twice known front v rest) role.ListedType is

  pub twice_object : w.role ≡ role.ListedObject → is_other (first_of known.objects w.text) (type_behind rest) ≡ is_twice known front w rest
  twice_object is = by_role (λ v. is_twice known front v rest) role.ListedObject is

  twice_kind : (k : Kind) (r : Role) → w.role ≡ r → is_once k ≡ true → is_kind k r ≡ true → ((v : Word) → is_twice known front (with_role r v) rest ≡ is_again front (with_role r v))
      → (table : NameTable) → ArePlaces k words table → first_before (number_in table w.text) place ≡ is_twice known front w rest
  twice_kind k r is once kind-is same table places =
      again_first k words place w at once (ap (is_kind k) is ∙ kind-is) table places
      ∙ sym (by_role (is_again front) r is) ∙ sym (same w) ∙ by_role (λ v. is_twice known front v rest) r is

  pub twice_predicate : w.role ≡ role.Predicate → (table : NameTable) → ArePlaces kind.Predicates words table → first_before (number_in table w.text) place ≡ is_twice known front w rest
  twice_predicate is = twice_kind kind.Predicates role.Predicate is refl refl (λ v. refl)

  pub twice_function : w.role ≡ role.Function → (table : NameTable) → ArePlaces kind.Functions words table → first_before (number_in table w.text) place ≡ is_twice known front w rest
  twice_function is = twice_kind kind.Functions role.Function is refl refl (λ v. refl)

  pub twice_action : w.role ≡ role.Action → (table : NameTable) → ArePlaces kind.Actions words table → first_before (number_in table w.text) place ≡ is_twice known front w rest
  twice_action is = twice_kind kind.Actions role.Action is refl refl (λ v. refl)

  pub twice_param : w.role ≡ role.Variable owner.Action → is_again (action_words front) w ≡ is_twice known front w rest
  twice_param is = sym (by_role (is_again (action_words front)) (role.Variable owner.Action) is) ∙ by_role (λ v. is_twice known front v rest) (role.Variable owner.Action) is

  pub twice_increase : w.role ≡ role.Increase → list_any (λ (v : Word). is_increase_role v.role && bytes_eq v.text w.text) (action_words front) ≡ is_twice known front w rest
  twice_increase is =
      (λ i. list_any (λ (v : Word). increase_sort v.role i && bytes_eq v.text w.text) (action_words front)) ∙ by_role (λ v. is_twice known front v rest) role.Increase is
    where
      increase_sort : (r : Role) → is_increase_role r ≡ same_sort r role.Increase
      increase_sort role.Increase = refl
      increase_sort (role.Variable owner.Predicate) = refl
      increase_sort (role.Variable owner.Function) = refl
      increase_sort (role.Variable owner.Action) = refl
      increase_sort _ = refl

  pub twice_value : w.role ≡ role.Value → is_other_number (lookup (same_call (w.text, terms_behind rest)) (values_in front)) (number_behind rest) ≡ is_twice known front w rest
  twice_value is = by_role (λ v. is_twice known front v rest) role.Value is

  pub twice_other_param : (o : Role) → w.role ≡ o → is_twice known front (with_role o w) rest ≡ false → false ≡ is_twice known front w rest
  twice_other_param o is none = sym none ∙ by_role (λ v. is_twice known front v rest) o is

  cycle_is : w.role ≡ role.ListedType → (again : Bool) → again ≡ is_again front w → (comes_back known.types w.text && not again) ≡ is_cycle known front w
  cycle_is is again same =
      ap (λ b. comes_back known.types w.text && not b) (same ∙ sym (by_role (is_again front) role.ListedType is)) ∙ by_role (λ v. is_cycle known front v) role.ListedType is

  listed_before : w.role ≡ role.ListedType → list_any (declares kind.Types w.text) (between 0 place words) ≡ is_again front w
  listed_before is =
      let long : place - 0 ≡ place = omega arith in
      ap (λ n. list_any (declares kind.Types w.text) (take n words)) long
      ∙ (λ i. list_any (λ (v : Word). same_kind kind.Types w.role refl (ap (is_kind kind.Types) is) v.role i && bytes_eq v.text w.text) front)

  pub cycle_none : w.role ≡ role.ListedType → comes_back known.types w.text ≡ false → false ≡ is_cycle known front w
  cycle_none is none = sym (ap (λ b. b && not (is_again front w)) none) ∙ cycle_is is (is_again front w) refl

  pub cycle_back : w.role ≡ role.ListedType → comes_back known.types w.text ≡ true
      → (again : Bool) → again ≡ list_any (declares kind.Types w.text) (between 0 place words) → not again ≡ is_cycle known front w
  cycle_back is back again same = sym (ap (λ b. b && not again) back) ∙ cycle_is is again (same ∙ listed_before is)
