-- What the words declare is listed word by word.
use Rattle.std.proofs.Common.{◌≡◌, ℕ, ◌+◌, ◌<◌, ◌≤◌, Bool, true, false, cond, get_or, Some, List, [], ◌∷◌, ◌++◌, length, drop, refl, sym, ap, ◌∙◌, arith, append_assoc}
use Rattle.std.specs.Prelude.{slice_get, slice_index}
use Rattle.std.proofs.lemmas.Bool.{true≢false}
use Rattle.std.proofs.lemmas.List.{drop_all, append-nil}
use Rattle.std.proofs.lemmas.Option.{slice_get_within}
use Rattle.mre_base.specs.declared.text.Text.{Text}
use Rattle.mre_base.proofs.Loops.{drop_item}
use Rattle.pddl_names.specs.declared.kind.Kind.{Kind}
use Rattle.pddl_names.specs.declared.kind.Kind.TheVariants as kind
use Rattle.pddl_names.specs.declared.role.Role.{Role}
use Rattle.pddl_names.specs.declared.role.Role.TheVariants as role
use Rattle.pddl_names.specs.declared.role.Word.{Word}
use Rattle.pddl_names.specs.Arities.{is_signed, signed_in}
use Rattle.pddl_names.specs.Groups.{text_at, AreTypePlaces}
use Rattle.pddl_names.specs.Kinds.{is_kind}
use Rattle.pddl_names.specs.Known.{is_typed, typed_in, is_variable_role, is_group_role}
use Rattle.pddl_names.specs.Listings.{Typed, Signed, types_listed, objects_listed, type_behind, own_params, types_of, with_own}
use Rattle.pddl_names.proofs.PlaceLemmas.{type_step, object_step}
use Rattle.pddl_names.proofs.ArityLemmas.{signed_step, signed_none}
use Rattle.pddl_names.proofs.ScanLemmas.{index_read}

typed_step : (k : Kind) → is_typed k ≡ true → (w : Word) (rest : List Word) → typed_in k (w ∷ rest) ≡ cond (is_kind k w.role) ((w.text, type_behind rest) ∷ typed_in k rest) (typed_in k rest)
typed_step kind.Types is w rest = type_step w.role (w.text, type_behind rest) (types_listed rest)
typed_step kind.Objects is w rest = object_step w.role (w.text, type_behind rest) (objects_listed rest)
typed_step _ is w rest = absurd (true≢false (sym is))

typed_none : (k : Kind) → typed_in k [] ≡ []
typed_none kind.Types = refl
typed_none kind.Objects = refl
typed_none _ = refl

-- a list that grows by the entries of the words, where `entries` gives those of the words from a place on
module _ {X : Type 0} (k : Kind) (entries : List Word → List X) (entry : Word → List Word → X)
    (step : (w : Word) (rest : List Word) → entries (w ∷ rest) ≡ cond (is_kind k w.role) (entry w rest ∷ entries rest) (entries rest))
    (words : List Word) (all : List X) where
  -- what is made so far, and what the words from a place on list, are all
  abbrev pub GrownTo : ℕ → List X → Type 0
  GrownTo place made = made ++ entries (drop place words) ≡ all

  pub grown_end : entries [] ≡ [] → (place : ℕ) (made : List X) → length words ≤ place → GrownTo place made → made ≡ all
  grown_end none place made past grown =
      sym (append-nil made) ∙ ap (λ es. made ++ es) (sym none ∙ ap entries (sym (drop_all place words past))) ∙ grown

  module _ (place : ℕ) (w : Word) (at : slice_get words place ≡ Some w) where
    stepped : (b : Bool) → is_kind k w.role ≡ b → entries (drop place words) ≡ cond b (entry w (drop (place + 1) words) ∷ entries (drop (place + 1) words)) (entries (drop (place + 1) words))
    stepped b is =
        ap entries (drop_item words place w at) ∙ step w (drop (place + 1) words)
        ∙ ap (λ c. cond c (entry w (drop (place + 1) words) ∷ entries (drop (place + 1) words)) (entries (drop (place + 1) words))) is

    pub grown_more : (old new : List X) (x : X) → is_kind k w.role ≡ true → GrownTo place old → new ≡ old ++ x ∷ [] → x ≡ entry w (drop (place + 1) words) → GrownTo (place + 1) new
    grown_more old new x is grown pushed same =
        ap (λ m. m ++ entries (drop (place + 1) words)) pushed ∙ append_assoc old (x ∷ []) (entries (drop (place + 1) words))
        ∙ (λ i. old ++ same i ∷ entries (drop (place + 1) words)) ∙ ap (λ es. old ++ es) (sym (stepped true is)) ∙ grown

    pub grown_passed : (made : List X) → is_kind k w.role ≡ false → GrownTo place made → GrownTo (place + 1) made
    grown_passed made is grown = ap (λ es. made ++ es) (sym (stepped false is)) ∙ grown

module _ (k : Kind) (words : List Word) (before : List Typed) where
  abbrev pub TypedTo : ℕ → List Typed → Type 0
  TypedTo place made = made ++ typed_in k (drop place words) ≡ before ++ typed_in k words

  module _ (typed : is_typed k ≡ true) where
    abbrev typed_entry : Word → List Word → Typed
    typed_entry w rest = (w.text, type_behind rest)

    pub typed_end : (place : ℕ) (made : List Typed) → length words ≤ place → TypedTo place made → made ≡ before ++ typed_in k words
    typed_end = grown_end k (typed_in k) typed_entry (typed_step k typed) words (before ++ typed_in k words) (typed_none k)

    pub typed_more : (place : ℕ) (w : Word) → slice_get words place ≡ Some w → (old new : List Typed) (e : Typed) → is_kind k w.role ≡ true → TypedTo place old → new ≡ old ++ e ∷ []
        → e ≡ (w.text, type_behind (drop (place + 1) words)) → TypedTo (place + 1) new
    typed_more = grown_more k (typed_in k) typed_entry (typed_step k typed) words (before ++ typed_in k words)

    pub typed_passed : (place : ℕ) (w : Word) → slice_get words place ≡ Some w → (made : List Typed) → is_kind k w.role ≡ false → TypedTo place made → TypedTo (place + 1) made
    typed_passed = grown_passed k (typed_in k) typed_entry (typed_step k typed) words (before ++ typed_in k words)

module _ (k : Kind) (words : List Word) (before : List Signed) where
  abbrev pub SignedTo : ℕ → List Signed → Type 0
  SignedTo place made = made ++ signed_in k (drop place words) ≡ before ++ signed_in k words

  module _ (signed : is_signed k ≡ true) where
    abbrev signed_entry : Word → List Word → Signed
    signed_entry w rest = (w.text, types_of (own_params rest))

    pub signed_end : (place : ℕ) (made : List Signed) → length words ≤ place → SignedTo place made → made ≡ before ++ signed_in k words
    signed_end = grown_end k (signed_in k) signed_entry (signed_step k signed) words (before ++ signed_in k words) (signed_none k)

    pub signed_more : (place : ℕ) (w : Word) → slice_get words place ≡ Some w → (old new : List Signed) (e : Signed) → is_kind k w.role ≡ true → SignedTo place old → new ≡ old ++ e ∷ []
        → e ≡ (w.text, types_of (own_params (drop (place + 1) words))) → SignedTo (place + 1) new
    signed_more = grown_more k (signed_in k) signed_entry (signed_step k signed) words (before ++ signed_in k words)

    pub signed_passed : (place : ℕ) (w : Word) → slice_get words place ≡ Some w → (made : List Signed) → is_kind k w.role ≡ false → SignedTo place made → SignedTo (place + 1) made
    signed_passed = grown_passed k (signed_in k) signed_entry (signed_step k signed) words (before ++ signed_in k words)

-- ---- the types of parameters

own_variable : (r : Role) → is_variable_role r ≡ true → (entry : Typed) (more : List Typed) → with_own r entry more ≡ entry ∷ more
own_variable (role.Variable o) is entry more = refl
own_variable _ is entry more = absurd (true≢false (sym is))

own_group : (r : Role) → is_group_role r ≡ true → (entry : Typed) (more : List Typed) → with_own r entry more ≡ more
own_group role.Dash is entry more = refl
own_group role.VariableType is entry more = refl
own_group _ is entry more = absurd (true≢false (sym is))

own_other : (r : Role) → is_variable_role r ≡ false → is_group_role r ≡ false → (entry : Typed) (more : List Typed) → with_own r entry more ≡ []
own_other (role.Variable o) v g entry more = absurd (true≢false v)
own_other role.Dash v g entry more = absurd (true≢false g)
own_other role.VariableType v g entry more = absurd (true≢false g)
own_other _ v g entry more = refl

module _ (words : List Word) (start : ℕ) where
  abbrev types_from : ℕ → List Text
  types_from place = types_of (own_params (drop place words))

  abbrev pub TypesTo : ℕ → List Text → Type 0
  TypesTo place made = made ++ types_of (own_params (drop place words)) ≡ types_of (own_params (drop start words))

  pub types_end : (place : ℕ) (made : List Text) → length words ≤ place → TypesTo place made → made ≡ types_of (own_params (drop start words))
  types_end place made past known = sym (append-nil made) ∙ ap (λ ws. made ++ types_of (own_params ws)) (sym (drop_all place words past)) ∙ known

  module _ (place : ℕ) (w : Word) (at : slice_get words place ≡ Some w) where
    rest_is : types_from place ≡ types_of (with_own w.role (w.text, type_behind (drop (place + 1) words)) (own_params (drop (place + 1) words)))
    rest_is = ap (λ ws. types_of (own_params ws)) (drop_item words place w at)

    pub types_more : (old new : List Text) (t : Text) → is_variable_role w.role ≡ true → TypesTo place old → new ≡ old ++ t ∷ [] → t ≡ type_behind (drop (place + 1) words) → TypesTo (place + 1) new
    types_more old new t is known pushed same =
        ap (λ m. m ++ types_from (place + 1)) pushed ∙ append_assoc old (t ∷ []) (types_from (place + 1))
        ∙ (λ i. old ++ same i ∷ types_from (place + 1))
        ∙ ap (λ (ps : List Typed). old ++ types_of ps) (sym (own_variable w.role is (w.text, type_behind (drop (place + 1) words)) (own_params (drop (place + 1) words))))
        ∙ ap (λ es. old ++ es) (sym rest_is) ∙ known

    pub types_passed : (made : List Text) → is_group_role w.role ≡ true → TypesTo place made → TypesTo (place + 1) made
    types_passed made is known =
        ap (λ (ps : List Typed). made ++ types_of ps) (sym (own_group w.role is (w.text, type_behind (drop (place + 1) words)) (own_params (drop (place + 1) words))))
        ∙ ap (λ es. made ++ es) (sym rest_is) ∙ known

    pub types_stop : (made : List Text) → is_variable_role w.role ≡ false → is_group_role w.role ≡ false → TypesTo place made → made ≡ types_of (own_params (drop start words))
    types_stop made v g known =
        sym (append-nil made)
        ∙ ap (λ (ps : List Typed). made ++ types_of ps) (sym (own_other w.role v g (w.text, type_behind (drop (place + 1) words)) (own_params (drop (place + 1) words))))
        ∙ ap (λ es. made ++ es) (sym rest_is) ∙ known

-- ---- the type at a place of the table

pub type_read : (words : List Word) (places : List ℕ) → AreTypePlaces words places → (place : ℕ) (w : Word) → slice_get words place ≡ Some w
    → text_at words (slice_index places place) ≡ type_behind (drop (place + 1) words)
type_read words places known place w at = known.each place (omega arith) (slice_get_within words place w at)

pub type_told : (words : List Word) (places : List ℕ) → AreTypePlaces words places → (place : ℕ) (w : Word) → slice_get words place ≡ Some w → (there : ℕ) → there ≡ get_or places place there
    → (text : Text) → text ≡ text_at words there → text ≡ type_behind (drop (place + 1) words)
type_told words places known place w at there is text told =
    let lt = slice_get_within words place w at in
    let inside : place < length places = omega (arith, lt, known.count) in
    told ∙ ap (text_at words) (is ∙ index_read places place there inside) ∙ type_read words places known place w at
