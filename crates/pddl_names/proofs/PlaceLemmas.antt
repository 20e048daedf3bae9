-- What is listed first of a name, by the place where it is declared first.
use Rattle.std.proofs.Common.{◌≡◌, ℕ, ◌+◌, ◌<◌, ◌&&◌, ◌||◌, suc, Bool, true, false, cond, Some, None, Option, List, [], ◌∷◌, ◌++◌, length, drop, refl, sym, ap, ◌∙◌, arith}
use Rattle.std.specs.Prelude.{nat_lt}
use Rattle.std.specs.List.{position_from, list_any}
use Rattle.std.specs.Option.{option_map}
use Rattle.std.specs.Str.{bytes_eq}
use Rattle.mre_base.specs.declared.text.Text.{Text}
use Rattle.pddl_names.specs.declared.kind.Kind.{Kind}
use Rattle.pddl_names.specs.declared.kind.Kind.TheVariants as kind
use Rattle.pddl_names.specs.declared.role.Role.{Role}
use Rattle.pddl_names.specs.declared.role.Role.TheVariants as role
use Rattle.pddl_names.specs.declared.role.Word.{Word}
use Rattle.pddl_names.specs.Kinds.{is_kind, declares, first_place}
use Rattle.std.proofs.lemmas.Bool.{true≢false}
use Rattle.std.proofs.lemmas.Bool.Decides.{Decides-ltb}
use Rattle.mre_base.proofs.Options.{same_some}
use Rattle.mre_base.proofs.Tests.{same_test}
use Rattle.pddl_names.specs.Listings.{Typed, Signed, first_of, with_type, with_object, with_predicate, with_function, type_behind, types_of, own_params, types_listed, objects_listed, predicates_in, functions_in}

-- places count on by one
shift_by : (b : Bool) (i : ℕ) (one two : Option ℕ) → one ≡ option_map suc two → cond b (Some (i + 1)) one ≡ option_map suc (cond b (Some i) two)
shift_by true i one two e = let grows : i + 1 ≡ suc i = omega arith in ap (λ (n : ℕ). Some n) grows
shift_by false i one two e = e

pub position_shift : {X : Type 0} (t : X → Bool) (i : ℕ) (xs : List X) → position_from t (i + 1) xs ≡ option_map suc (position_from t i xs)
position_shift t i [] = refl
position_shift t i (x ∷ xs) = shift_by (t x) i (position_from t (i + 1 + 1) xs) (position_from t (i + 1) xs) (position_shift t (i + 1) xs)

module _ {X : Type 0} (k : Kind) (entry : List Word → X) (entries : List Word → List (Text × X)) (none : entries [] ≡ [])
    (step : (w : Word) (rest : List Word) → entries (w ∷ rest) ≡ cond (is_kind k w.role) ((w.text, entry rest) ∷ entries rest) (entries rest)) where
  -- the entry of the word at a place
  abbrev pub entry_at : List Word → ℕ → X
  entry_at words place = entry (drop (place + 1) words)

  first_by : (a b : Bool) (name : Text) (w : Word) (rest : List Word) → bytes_eq w.text name ≡ b
      → first_of (entries rest) name ≡ option_map (entry_at rest) (first_place k rest name)
      → first_of (cond a ((w.text, entry rest) ∷ entries rest) (entries rest)) name
      ≡ option_map (entry_at (w ∷ rest)) (cond (a && b) (Some 0) (option_map suc (first_place k rest name)))
  first_by false b name w rest is later = later ∙ passed (first_place k rest name)
    where
      passed : (o : Option ℕ) → option_map (entry_at rest) o ≡ option_map (entry_at (w ∷ rest)) (option_map suc o)
      passed None = refl
      passed (Some place) = let grows : suc place + 1 ≡ suc (place + 1) = omega arith in ap (λ (n : ℕ). Some (entry (drop n (w ∷ rest)))) (sym grows)
  first_by true true name w rest is later = ap (λ c. cond c (Some (entry rest)) (first_of (entries rest) name)) is
  first_by true false name w rest is later =
      ap (λ c. cond c (Some (entry rest)) (first_of (entries rest) name)) is ∙ later ∙ passed (first_place k rest name)
    where
      passed : (o : Option ℕ) → option_map (entry_at rest) o ≡ option_map (entry_at (w ∷ rest)) (option_map suc o)
      passed None = refl
      passed (Some place) = let grows : suc place + 1 ≡ suc (place + 1) = omega arith in ap (λ (n : ℕ). Some (entry (drop n (w ∷ rest)))) (sym grows)

  pub first_is : (words : List Word) (name : Text) → first_of (entries words) name ≡ option_map (entry_at words) (first_place k words name)
  first_is [] name = ap (λ es. first_of es name) none
  first_is (w ∷ rest) name =
      ap (λ es. first_of es name) (step w rest)
      ∙ first_by (is_kind k w.role) (bytes_eq w.text name) name w rest refl (first_is rest name)
      ∙ ap (λ o. option_map (entry_at (w ∷ rest)) (cond (is_kind k w.role && bytes_eq w.text name) (Some 0) o)) (sym (position_shift (declares k name) 0 rest))

-- ---- the four lists

pub type_step : (r : Role) (e : Typed) (more : List Typed) → with_type r e more ≡ cond (is_kind kind.Types r) (e ∷ more) more
type_step role.ListedType e more = refl
type_step _ e more = refl

pub object_step : (r : Role) (e : Typed) (more : List Typed) → with_object r e more ≡ cond (is_kind kind.Objects r) (e ∷ more) more
object_step role.ListedObject e more = refl
object_step _ e more = refl

pub predicate_step : (r : Role) (e : Signed) (more : List Signed) → with_predicate r e more ≡ cond (is_kind kind.Predicates r) (e ∷ more) more
predicate_step role.Predicate e more = refl
predicate_step _ e more = refl

pub function_step : (r : Role) (e : Signed) (more : List Signed) → with_function r e more ≡ cond (is_kind kind.Functions r) (e ∷ more) more
function_step role.Function e more = refl
function_step _ e more = refl

module _ (words : List Word) (name : Text) where
  pub first_type : first_of (types_listed words) name ≡ option_map (λ place. type_behind (drop (place + 1) words)) (first_place kind.Types words name)
  first_type = first_is kind.Types type_behind types_listed refl (λ w rest. type_step w.role (w.text, type_behind rest) (types_listed rest)) words name

  pub first_object : first_of (objects_listed words) name ≡ option_map (λ place. type_behind (drop (place + 1) words)) (first_place kind.Objects words name)
  first_object = first_is kind.Objects type_behind objects_listed refl (λ w rest. object_step w.role (w.text, type_behind rest) (objects_listed rest)) words name

  pub first_predicate : first_of (predicates_in words) name ≡ option_map (λ place. types_of (own_params (drop (place + 1) words))) (first_place kind.Predicates words name)
  first_predicate = first_is kind.Predicates (λ rest. types_of (own_params rest)) predicates_in refl (λ w rest. predicate_step w.role (w.text, types_of (own_params rest)) (predicates_in rest)) words name

  pub first_function : first_of (functions_in words) name ≡ option_map (λ place. types_of (own_params (drop (place + 1) words))) (first_place kind.Functions words name)
  first_function = first_is kind.Functions (λ rest. types_of (own_params rest)) functions_in refl (λ w rest. function_step w.role (w.text, types_of (own_params rest)) (functions_in rest)) words name

-- ---- whether a name was declared before

shifted : (o : Option ℕ) (place : ℕ) → option_map suc o ≡ Some place → (p : ℕ) × (o ≡ Some p) × (suc p ≡ place)
shifted None place e = absurd (cc)
shifted (Some p) place e = (p, refl, same_some (suc p) place e)

module _ {X : Type 0} (t : X → Bool) where
  -- where an item passes after others, the first place that passes is among the others exactly where one of them passes
  abbrev Among : List X → ℕ → Type 0
  Among before place = (list_any t before ≡ true → place < length before) × (place < length before → list_any t before ≡ true)

  among_by : (b : X) (before rest : List X) (place : ℕ) (a : Bool) → t b ≡ a → cond a (Some 0) (option_map suc (position_from t 0 rest)) ≡ Some place
      → ((p : ℕ) → position_from t 0 rest ≡ Some p → Among before p) → ((a || list_any t before) ≡ true → place < suc (length before)) × (place < suc (length before) → (a || list_any t before) ≡ true)
  among_by b before rest place true is e later = let first : 0 ≡ place = same_some 0 place e in (λ _. omega arith, λ _. refl)
  among_by b before rest place false is e later =
      let p = shifted (position_from t 0 rest) place e in
      let both = later p.0 p.1 in
      (λ any. let lt = both.0 any in omega (arith, lt, p.2), λ lt. both.1 (omega (arith, lt, p.2)))

  among : (before : List X) (x : X) (rest : List X) → t x ≡ true → (place : ℕ) → position_from t 0 (before ++ x ∷ rest) ≡ Some place → Among before place
  among [] x rest is place e =
      let first : 0 ≡ place = same_some 0 place (sym (ap (λ b. cond b (Some 0) (position_from t 1 rest)) is) ∙ e) in
      (λ none. absurd (true≢false (sym none)), λ lt. absurd (omega arith))
  among (b ∷ before) x rest is place e =
      among_by b before (before ++ x ∷ rest) place (t b) refl (ap (λ o. cond (t b) (Some 0) o) (sym (position_shift t 0 (before ++ x ∷ rest))) ∙ e) (among before x rest is)

  pub before_first : (before : List X) (x : X) (rest : List X) → t x ≡ true → (place : ℕ) → position_from t 0 (before ++ x ∷ rest) ≡ Some place → list_any t before ≡ nat_lt place (length before)
  before_first before x rest is place e =
      let both = among before x rest is place e in
      same_test (list_any t before) (nat_lt place (length before)) (λ any. (Decides-ltb place (length before)).1 (both.0 any)) (λ lt. both.1 ((Decides-ltb place (length before)).0 lt))
