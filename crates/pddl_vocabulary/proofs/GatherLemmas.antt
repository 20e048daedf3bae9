-- Lists of what words say are gathered from the first word to the last.
use Rattle.std.proofs.Common.{◌≡◌, ℕ, ◌+◌, ◌<◌, ◌≤◌, suc, Bool, true, false, cond, Some, None, Option, List, [], ◌∷◌, ◌++◌, length, map, drop, refl, sym, ap, ◌∙◌, append_assoc, arith}
use Rattle.std.specs.Prelude.{codes, slice_get}
use Rattle.std.specs.List.{position_from}
use Rattle.std.specs.Option.{option_map, unwrap_or}
use Rattle.std.proofs.lemmas.List.{append-nil, drop_all}
use Rattle.mre_base.specs.declared.text.Text.{Text}
use Rattle.mre_base.proofs.Loops.{drop_item}
use Rattle.pddl_form.specs.declared.parts.Owner.{Owner}
use Rattle.pddl_form.specs.declared.parts.Owner.TheVariants as owner
use Rattle.pddl_names.specs.declared.kind.Kind.{Kind}
use Rattle.pddl_names.specs.declared.kind.Kind.TheVariants as kind
use Rattle.pddl_names.specs.declared.role.Role.{Role}
use Rattle.pddl_names.specs.declared.role.Role.TheVariants as role
use Rattle.pddl_names.specs.declared.role.Word.{Word}
use Rattle.pddl_vocabulary.specs.declared.vocabulary_types.TypeNumbers.{TypeNumbers}
use Rattle.pddl_names.specs.Kinds.{is_kind, first_place}
use Rattle.pddl_names.specs.Listings.{Typed, types_listed, objects_listed, type_behind, parent_of, with_object, with_own, with_param, own_params, action_params, types_of}
use Rattle.pddl_names.specs.Params.{is_action_name, is_param}
use Rattle.pddl_vocabulary.specs.Values.{with_type_name}
use Rattle.pddl_vocabulary.specs.VocabularyTypes.{is_type_name, type_number, AreTypesOf}
use Rattle.pddl_vocabulary.specs.VocabularyLists.{parent_said, object_said, objects_numbered, is_entry_word, entry_said, entries_said}
use Rattle.pddl_names.proofs.PlaceLemmas.{first_type}

-- ---- a list of entries, each by its word and the words after it

module _ {X Y : Type 0} (entries : List X → List Y) (none : entries [] ≡ []) (xs : List X) (whole : List Y) where
  -- what is gathered, and what is still to be gathered from a place on
  abbrev pub Gathered : ℕ → List Y → Type 0
  Gathered place made = made ++ entries (drop place xs) ≡ whole

  pub gathered_all : (place : ℕ) (made : List Y) → length xs ≤ place → Gathered place made → made ≡ whole
  gathered_all place made past before =
      sym (append-nil made) ∙ ap (λ l. made ++ l) (sym none) ∙ ap (λ l. made ++ entries l) (sym (drop_all place xs past)) ∙ before

  module _ (place : ℕ) (x : X) (at : slice_get xs place ≡ Some x) (old new : List Y) where
    -- the item says nothing
    pub gathered_pass : entries (x ∷ drop (place + 1) xs) ≡ entries (drop (place + 1) xs) → Gathered place old → new ≡ old → Gathered (place + 1) new
    gathered_pass says before same =
        ap (λ l. l ++ entries (drop (place + 1) xs)) same
        ∙ ap (λ l. old ++ l) (sym says)
        ∙ ap (λ l. old ++ entries l) (sym (drop_item xs place x at)) ∙ before

    -- the item says an entry
    pub gathered_more : (y : Y) → entries (x ∷ drop (place + 1) xs) ≡ y ∷ entries (drop (place + 1) xs) → Gathered place old → new ≡ old ++ y ∷ [] → Gathered (place + 1) new
    gathered_more y says before pushed =
        ap (λ l. l ++ entries (drop (place + 1) xs)) pushed
        ∙ append_assoc old (y ∷ []) (entries (drop (place + 1) xs))
        ∙ ap (λ l. old ++ l) (sym says)
        ∙ ap (λ l. old ++ entries l) (sym (drop_item xs place x at)) ∙ before

    -- after the item nothing more is declared
    pub gathered_stop : entries (x ∷ drop (place + 1) xs) ≡ [] → Gathered place old → new ≡ old → new ≡ whole
    gathered_stop says before same =
        same ∙ sym (append-nil old) ∙ ap (λ l. old ++ l) (sym says) ∙ ap (λ l. old ++ entries l) (sym (drop_item xs place x at)) ∙ before

-- ---- names of types

pub type_name_is : (r : Role) (text : Text) (more : List Text) (b : Bool) → is_type_name r ≡ b → with_type_name r text more ≡ cond b (text ∷ more) more
type_name_is role.ListedType text more b is = ap (λ c. cond c (text ∷ more) more) is
type_name_is role.ParentType text more b is = ap (λ c. cond c (text ∷ more) more) is
type_name_is _ text more b is = ap (λ c. cond c (text ∷ more) more) is

-- ---- parents

within_by : (c : Bool) (i n : ℕ) (later : Option ℕ) (p : ℕ) → ((q : ℕ) → later ≡ Some q → q < i + 1 + n) → cond c (Some i) later ≡ Some p → p < i + suc n
within_by true i n later p more e = let same : i ≡ p = cc in omega (arith, same)
within_by false i n later p more e = let lt = more p e in omega (arith, lt)

pub position_within : {X : Type 0} (t : X → Bool) (i : ℕ) (xs : List X) (p : ℕ) → position_from t i xs ≡ Some p → p < i + length xs
position_within t i [] p e = absurd (cc)
position_within t i (x ∷ xs) p e = within_by (t x) i (length xs) (position_from t (i + 1) xs) p (position_within t (i + 1) xs) e

module _ (types : TypeNumbers) (words : List Word) (are : AreTypesOf words types) (name : Text) where
  parent_by : (o : Option ℕ) → first_place kind.Types words name ≡ o
      → parent_of (types_listed words) name ≡ unwrap_or (option_map (λ place. type_behind (drop (place + 1) words)) o) (codes "object")
  parent_by o is =
      ap (λ p. unwrap_or p (codes "object")) (first_type words name)
      ∙ ap (λ p. unwrap_or (option_map (λ place. type_behind (drop (place + 1) words)) p) (codes "object")) is

  pub parent_some : (place : ℕ) → first_place kind.Types words name ≡ Some place → type_number types (type_behind (drop (place + 1) words)) ≡ parent_said (type_number types) words name
  parent_some place is = ap (type_number types) (sym (parent_by (Some place) is))

  pub parent_none : first_place kind.Types words name ≡ None → 0 ≡ parent_said (type_number types) words name
  parent_none is = sym are.object ∙ ap (type_number types) (sym (parent_by None is))

-- ---- objects

object_by : (number : Text → ℕ) (r : Role) (e : Typed) (more : List Typed) (b : Bool) → is_kind kind.Objects r ≡ b
    → map (object_said number) (with_object r e more) ≡ cond b (object_said number e ∷ map (object_said number) more) (map (object_said number) more)
object_by number role.ListedObject e more b is = ap (λ c. cond c (object_said number e ∷ map (object_said number) more) (map (object_said number) more)) is
object_by number _ e more b is = ap (λ c. cond c (object_said number e ∷ map (object_said number) more) (map (object_said number) more)) is

pub objects_step : (number : Text → ℕ) (w : Word) (rest : List Word) (b : Bool) → is_kind kind.Objects w.role ≡ b
    → objects_numbered number (w ∷ rest) ≡ cond b ((w.text, number (type_behind rest)) ∷ objects_numbered number rest) (objects_numbered number rest)
objects_step number w rest b is = object_by number w.role (w.text, type_behind rest) (objects_listed rest) b is

-- ---- parameters

module _ (types : TypeNumbers) where
  -- the numbers of the types of parameters
  abbrev pub own_numbers : List Word → List ℕ
  own_numbers words = map (type_number types) (types_of (own_params words))

  abbrev pub action_numbers : List Word → List ℕ
  action_numbers words = map (type_number types) (types_of (action_params words))

  abbrev numbers_of : List Typed → List ℕ
  numbers_of params = map (type_number types) (types_of params)

  action_stop_by : (r : Role) (e : Typed) (more : List Typed) → is_action_name r ≡ true → with_param r e more ≡ []
  action_stop_by role.Action e more is = refl
  action_stop_by _ e more is = absurd (cc)

  pub action_stop : (w : Word) (rest : List Word) → is_action_name w.role ≡ true → action_numbers (w ∷ rest) ≡ []
  action_stop w rest is = ap numbers_of (action_stop_by w.role (w.text, type_behind rest) (action_params rest) is)

  action_by : (r : Role) (e : Typed) (more : List Typed) (b : Bool) → is_action_name r ≡ false → is_param r ≡ b → with_param r e more ≡ cond b (e ∷ more) more
  action_by role.Action e more b other is = absurd (cc)
  action_by (role.Variable owner.Action) e more b other is = ap (λ c. cond c (e ∷ more) more) is
  action_by (role.Variable owner.Predicate) e more b other is = ap (λ c. cond c (e ∷ more) more) is
  action_by (role.Variable owner.Function) e more b other is = ap (λ c. cond c (e ∷ more) more) is
  action_by _ e more b other is = ap (λ c. cond c (e ∷ more) more) is

  pub action_param : (w : Word) (rest : List Word) → is_action_name w.role ≡ false → is_param w.role ≡ true
      → action_numbers (w ∷ rest) ≡ type_number types (type_behind rest) ∷ action_numbers rest
  action_param w rest other is = ap numbers_of (action_by w.role (w.text, type_behind rest) (action_params rest) true other is)

  pub action_pass : (w : Word) (rest : List Word) → is_action_name w.role ≡ false → is_param w.role ≡ false → action_numbers (w ∷ rest) ≡ action_numbers rest
  action_pass w rest other is = ap numbers_of (action_by w.role (w.text, type_behind rest) (action_params rest) false other is)

  own_stop_by : (r : Role) (e : Typed) (more : List Typed) → ((o : Owner) → r ≡ role.Variable o → ⊥) → (r ≡ role.Dash → ⊥) → (r ≡ role.VariableType → ⊥) → with_own r e more ≡ []
  own_stop_by (role.Variable o) e more variable dash type = absurd (variable o refl)
  own_stop_by role.Dash e more variable dash type = absurd (dash refl)
  own_stop_by role.VariableType e more variable dash type = absurd (type refl)
  own_stop_by _ e more variable dash type = refl

  pub own_stop : (w : Word) (rest : List Word) → ((o : Owner) → w.role ≡ role.Variable o → ⊥) → (w.role ≡ role.Dash → ⊥) → (w.role ≡ role.VariableType → ⊥) → own_numbers (w ∷ rest) ≡ []
  own_stop w rest variable dash type = ap numbers_of (own_stop_by w.role (w.text, type_behind rest) (own_params rest) variable dash type)

  pub own_param : (w : Word) (rest : List Word) (o : Owner) → w.role ≡ role.Variable o → own_numbers (w ∷ rest) ≡ type_number types (type_behind rest) ∷ own_numbers rest
  own_param w rest o is = ap (λ r. numbers_of (with_own r (w.text, type_behind rest) (own_params rest))) is

  pub own_dash : (w : Word) (rest : List Word) → w.role ≡ role.Dash → own_numbers (w ∷ rest) ≡ own_numbers rest
  own_dash w rest is = ap (λ r. numbers_of (with_own r (w.text, type_behind rest) (own_params rest))) is

  pub own_type : (w : Word) (rest : List Word) → w.role ≡ role.VariableType → own_numbers (w ∷ rest) ≡ own_numbers rest
  own_type w rest is = ap (λ r. numbers_of (with_own r (w.text, type_behind rest) (own_params rest))) is

-- ---- predicates, functions and actions

entry_by : {X : Type 0} (b : Bool) (x : X) (more : List X) (c : Bool) → b ≡ c → cond b (x ∷ more) more ≡ cond c (x ∷ more) more
entry_by b x more c is = ap (λ d. cond d (x ∷ more) more) is

pub entries_step : (number : Text → ℕ) (k : Kind) (w : Word) (rest : List Word) (b : Bool) → is_entry_word k w ≡ b
    → entries_said number k (w ∷ rest) ≡ cond b (entry_said number k w rest ∷ entries_said number k rest) (entries_said number k rest)
entries_step number k w rest b is = entry_by (is_entry_word k w) (entry_said number k w rest) (entries_said number k rest) b is
