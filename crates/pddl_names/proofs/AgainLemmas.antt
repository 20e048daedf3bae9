-- A word declares what a word before it declares exactly where the first place of the name is before its own.
use Rattle.std.proofs.Common.{◌≡◌, ℕ, ◌+◌, ◌&&◌, Bool, true, false, cond, Some, None, List, [], ◌∷◌, ◌++◌, length, take, drop, refl, sym, ap, ◌∙◌, arith}
use Rattle.std.specs.Prelude.{nat_lt, slice_get}
use Rattle.std.specs.List.{position_from, list_any}
use Rattle.std.specs.Str.{bytes_eq}
use Rattle.std.proofs.lemmas.Bool.{true≢false}
use Rattle.std.proofs.lemmas.List.{take-append-drop, length-take}
use Rattle.std.proofs.lemmas.Option.{slice_get_within}
use Rattle.model_kit.proofs.Alike.{same_numbers-decides}
use Rattle.mre_base.proofs.Loops.{drop_item}
use Rattle.pddl_form.specs.declared.parts.Owner.TheVariants as owner
use Rattle.pddl_names.specs.declared.kind.Kind.{Kind}
use Rattle.pddl_names.specs.declared.kind.Kind.TheVariants as kind
use Rattle.pddl_names.specs.declared.role.Role.{Role}
use Rattle.pddl_names.specs.declared.role.Role.TheVariants as role
use Rattle.pddl_names.specs.declared.role.Word.{Word}
use Rattle.pddl_names.specs.Kinds.{is_kind, is_once, declares, first_place}
use Rattle.pddl_names.specs.Naming.{same_sort, is_again}
use Rattle.pddl_names.proofs.PlaceLemmas.{before_first}

-- ---- the sort of a kind

sort_types : (r : Role) → is_kind kind.Types r ≡ same_sort r role.ListedType
sort_types role.ListedType = refl
sort_types (role.Variable owner.Predicate) = refl
sort_types (role.Variable owner.Function) = refl
sort_types (role.Variable owner.Action) = refl
sort_types _ = refl

sort_predicates : (r : Role) → is_kind kind.Predicates r ≡ same_sort r role.Predicate
sort_predicates role.Predicate = refl
sort_predicates (role.Variable owner.Predicate) = refl
sort_predicates (role.Variable owner.Function) = refl
sort_predicates (role.Variable owner.Action) = refl
sort_predicates _ = refl

sort_functions : (r : Role) → is_kind kind.Functions r ≡ same_sort r role.Function
sort_functions role.Function = refl
sort_functions (role.Variable owner.Predicate) = refl
sort_functions (role.Variable owner.Function) = refl
sort_functions (role.Variable owner.Action) = refl
sort_functions _ = refl

sort_actions : (r : Role) → is_kind kind.Actions r ≡ same_sort r role.Action
sort_actions role.Action = refl
sort_actions (role.Variable owner.Predicate) = refl
sort_actions (role.Variable owner.Function) = refl
sort_actions (role.Variable owner.Action) = refl
sort_actions _ = refl

pub same_kind : (k : Kind) (q : Role) → is_once k ≡ true → is_kind k q ≡ true → (r : Role) → is_kind k r ≡ same_sort r q
same_kind kind.Types role.ListedType once is r = sort_types r
same_kind kind.Types _ once is r = absurd (true≢false (sym is))
same_kind kind.Objects q once is r = absurd (true≢false (sym once))
same_kind kind.Predicates role.Predicate once is r = sort_predicates r
same_kind kind.Predicates _ once is r = absurd (true≢false (sym is))
same_kind kind.Functions role.Function once is r = sort_functions r
same_kind kind.Functions _ once is r = absurd (true≢false (sym is))
same_kind kind.Actions role.Action once is r = sort_actions r
same_kind kind.Actions _ once is r = absurd (true≢false (sym is))

-- ---- an item that passes is found

found_by : {X : Type 0} (t : X → Bool) (b : X) (more : List X) (from : ℕ) (c : Bool) → t b ≡ c → cond c (Some from) (position_from t (from + 1) more) ≡ None
    → position_from t (from + 1) more ≡ None
found_by t b more from true is none = absurd (cc)
found_by t b more from false is none = none

found : {X : Type 0} (t : X → Bool) (before : List X) (x : X) (rest : List X) (from : ℕ) → t x ≡ true → position_from t from (before ++ x ∷ rest) ≡ None → ⊥
found t [] x rest from is none = let some = sym (ap (λ c. cond c (Some from) (position_from t (from + 1) rest)) is) ∙ none in cc
found t (b ∷ before) x rest from is none = found t before x rest (from + 1) is (found_by t b (before ++ x ∷ rest) from (t b) refl none)

-- ---- a word at a place

module _ (k : Kind) (words : List Word) (place : ℕ) (w : Word) (at : slice_get words place ≡ Some w) (once : is_once k ≡ true) (is : is_kind k w.role ≡ true) where
  abbrev before : List Word
  before = take place words

  split : words ≡ before ++ w ∷ drop (place + 1) words
  split = sym (take-append-drop place words) ∙ ap (λ l. before ++ l) (drop_item words place w at)

  passes : declares k w.text w ≡ true
  passes = ap (λ b. b && bytes_eq w.text w.text) is ∙ (same_numbers-decides w.text w.text).1 refl

  again_is : list_any (declares k w.text) before ≡ is_again before w
  again_is i = list_any (λ v. same_kind k w.role once is v.role i && bytes_eq v.text w.text) before

  long : length before ≡ place
  long = let lt = slice_get_within words place w at in let l = length-take place words in omega (arith, lt, l)

  pub again_some : (first : ℕ) → first_place k words w.text ≡ Some first → nat_lt first place ≡ is_again before w
  again_some first e =
      ap (nat_lt first) (sym long)
      ∙ sym (before_first (declares k w.text) before w (drop (place + 1) words) passes first (ap (position_from (declares k w.text) 0) (sym split) ∙ e))
      ∙ again_is

  pub again_none : first_place k words w.text ≡ None → ⊥
  again_none e = found (declares k w.text) before w (drop (place + 1) words) 0 passes (ap (position_from (declares k w.text) 0) (sym split) ∙ e)
