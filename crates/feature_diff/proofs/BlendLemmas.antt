-- A model with some places as the planner has them and the others as the user has them.
use Rattle.std.proofs.Common.{◌≡◌, ℕ, ◌+◌, ◌<◌, ◌≤◌, ◌&&◌, ◌||◌, zero, suc, Bool, true, false, cond, Option, Some, None, List, [], ◌∷◌, ◌++◌, length, take, refl, sym, ap, subst, ◌∙◌, arith, ⊎_elim, append-nil, append_assoc, length-append}
use Rattle.std.specs.Prelude.{◌==◌, not, nat_lt, IsTrue, All, slice_get}
use Rattle.std.specs.Bool.{beq}
use Rattle.std.specs.List.{list_any}
use Rattle.std.specs.Option.{option_map_or}
use Rattle.std.proofs.lemmas.Bool.{true≢false, cases_Bool, cases_order, eqb-true}
use Rattle.std.proofs.lemmas.List.Folds.{list_any-append}
use Rattle.std.proofs.lemmas.List.Kept.{AllPairs-filter}
use Rattle.std.proofs.lemmas.List.Elements.{All-append, All-filter, All-weaker, filter_passes, filter-append}
use Rattle.std.proofs.lemmas.Option.{slice_get_within, slice_get_past}
use Rattle.model_kit.specs.declared.vocabulary.Vocabulary.{Vocabulary}
use Rattle.model_kit.specs.declared.model.Model.{Model}
use Rattle.model_kit.specs.declared.model.Schema.{Schema}
use Rattle.model_kit.specs.Places as place
use Rattle.model_kit.specs.Places.{Place, Content, Feature, Price, Worth, Nothing, meaning, value_of}
use Rattle.model_kit.specs.Same.{same_atom, same_schema_atom}
use Rattle.model_kit.specs.Features.{is_model, is_cost, is_value, is_action, same_key}
use Rattle.model_kit.specs.Vocabulary.{is_ground_atom, is_schema_atom}
use Rattle.model_kit.specs.declared.atom.GroundAtom.{GroundAtom}
use Rattle.model_kit.specs.declared.model.CostExpr.{CostExpr}
use Rattle.mre_base.proofs.Loops.{take_item}
use Rattle.model_kit.proofs.Alike.{same_atom-decides, same_schema_atom-decides}
use Rattle.model_kit.proofs.Distinct.{ListFacts}
use Rattle.model_kit.proofs.ModelFacts.{SchemaFacts, ModelFacts, facts_of_model, model_sound}
use Rattle.feature_diff.specs.Blending.{those, blended, blended_schema, AreBlended, IsBlend}
use Rattle.feature_diff.proofs.JoinLemmas.{pairs_append}
use Rattle.feature_diff.proofs.ValueLemmas.{key_decides}
use Rattle.mre_base.proofs.Listed.{item_at}
use Rattle.mre_base.proofs.Tests.{or_false, beq_same}

-- ---- the loop that keeps some entries

module _ {X : Type 0} (test : X → Bool) (wanted : Bool) (xs : List X) (i : ℕ) (x : X) (at : slice_get xs i ≡ Some x) (begin old new : List X) (before : old ≡ begin ++ those test wanted (take i xs)) (b : Bool) (is : b ≡ test x) where
  kept_split : begin ++ those test wanted (take (i + 1) xs) ≡ (begin ++ those test wanted (take i xs)) ++ cond (beq b wanted) (x ∷ []) []
  kept_split =
      ap (λ ys. begin ++ those test wanted ys) (take_item xs i x at)
      ∙ ap (λ ys. begin ++ ys) (filter-append (λ y. beq (test y) wanted) (take i xs) (x ∷ []))
      ∙ ap (λ c. begin ++ (those test wanted (take i xs) ++ cond (beq c wanted) (x ∷ []) [])) (sym is)
      ∙ sym (append_assoc begin (those test wanted (take i xs)) (cond (beq b wanted) (x ∷ []) []))

  pub kept_more : beq b wanted ≡ true → (y : X) → y ≡ x → new ≡ old ++ y ∷ [] → new ≡ begin ++ those test wanted (take (i + 1) xs)
  kept_more hit y same now =
      now
      ∙ (λ j. before j ++ same j ∷ [])
      ∙ ap (λ c. (begin ++ those test wanted (take i xs)) ++ cond c (x ∷ []) []) (sym hit)
      ∙ sym kept_split

  pub kept_less : beq b wanted ≡ false → new ≡ old → new ≡ begin ++ those test wanted (take (i + 1) xs)
  kept_less miss now =
      now
      ∙ before
      ∙ sym (append-nil (begin ++ those test wanted (take i xs)))
      ∙ ap (λ c. (begin ++ those test wanted (take i xs)) ++ cond c (x ∷ []) []) (sym miss)
      ∙ sym kept_split

-- ---- what a blended list contains

beq_alike : (b c : Bool) → b ≡ c → beq b c ≡ true
beq_alike true c e = let same : c ≡ true = sym e in rw same refl
beq_alike false c e = let same : c ≡ false = sym e in rw same refl

beq_other : (b : Bool) → beq b (not b) ≡ false
beq_other true = refl
beq_other false = refl

module _ {X : Type 0} (hits : X → Bool) (test : X → Bool) (b : Bool) (agree : (x : X) → hits x ≡ true → test x ≡ b) where
  any_kept : (xs : List X) → list_any hits (those test b xs) ≡ list_any hits xs
  any_kept [] = refl
  any_kept (x ∷ xs) =
      ⊎_elim
      (λ hit.
      let passes : beq (test x) b ≡ true = beq_alike (test x) b (agree x hit) in
      ap (λ c. list_any hits (cond c (x ∷ those test b xs) (those test b xs))) passes
      ∙ ap (λ c. c || list_any hits (those test b xs)) hit
      ∙ sym (ap (λ c. c || list_any hits xs) hit))
      (λ miss.
      by (beq (test x) b) miss
      ∙ any_kept xs
      ∙ sym (ap (λ c. c || list_any hits xs) miss))
      (cases_Bool (hits x))
    where
      by : (c : Bool) → hits x ≡ false → list_any hits (cond c (x ∷ those test b xs) (those test b xs)) ≡ list_any hits (those test b xs)
      by true miss = ap (λ d. d || list_any hits (those test b xs)) miss
      by false miss = refl

  any_dropped : (xs : List X) → list_any hits (those test (not b) xs) ≡ false
  any_dropped [] = refl
  any_dropped (x ∷ xs) =
      ⊎_elim
      (λ hit.
      let fails : beq (test x) (not b) ≡ false = ap (λ c. beq c (not b)) (agree x hit) ∙ beq_other b in
      ap (λ c. list_any hits (cond c (x ∷ those test (not b) xs) (those test (not b) xs))) fails ∙ any_dropped xs)
      (λ miss. by (beq (test x) (not b)) miss ∙ any_dropped xs)
      (cases_Bool (hits x))
    where
      by : (c : Bool) → hits x ≡ false → list_any hits (cond c (x ∷ those test (not b) xs) (those test (not b) xs)) ≡ list_any hits (those test (not b) xs)
      by true miss = ap (λ d. d || list_any hits (those test (not b) xs)) miss
      by false miss = refl

-- an entry is in a blended list where it is in the list that its test picks
any_blended : {X : Type 0} (hits test : X → Bool) (b : Bool) → ((x : X) → hits x ≡ true → test x ≡ b) → (ps us : List X) → list_any hits (blended test ps us) ≡ cond b (list_any hits ps) (list_any hits us)
any_blended hits test true agree ps us =
    list_any-append hits (those test true ps) (those test false us)
    ∙ ap (λ c. list_any hits (those test true ps) || c) (any_dropped hits test true agree us)
    ∙ or_false (list_any hits (those test true ps))
    ∙ any_kept hits test true agree ps
any_blended hits test false agree ps us =
    list_any-append hits (those test true ps) (those test false us)
    ∙ ap (λ c. c || list_any hits (those test false us)) (any_dropped hits test false agree ps)
    ∙ any_kept hits test false agree us

-- ---- the value in a blended list

abbrev Key : Type 0
Key = ℕ × List ℕ × ℕ

module _ (f : ℕ) (xs : List ℕ) (test : Key → Bool) (b : Bool) (agree : (v : Key) → same_key v (f, xs, 0) ≡ true → test v ≡ b) where
  value_kept : (vs rest : List Key) → value_of rest f xs ≡ None → value_of (those test b vs ++ rest) f xs ≡ value_of vs f xs
  value_kept [] rest none = none
  value_kept (v ∷ vs) rest none =
      ⊎_elim
      (λ hit.
      let passes : beq (test v) b ≡ true = beq_alike (test v) b (agree v hit) in
      ap (λ c. value_of (cond c (v ∷ those test b vs) (those test b vs) ++ rest) f xs) passes
      ∙ ap (λ c. cond c (Some v.2) (value_of (those test b vs ++ rest) f xs)) hit
      ∙ sym (ap (λ c. cond c (Some v.2) (value_of vs f xs)) hit))
      (λ miss.
      by (beq (test v) b) miss
      ∙ value_kept vs rest none
      ∙ sym (ap (λ c. cond c (Some v.2) (value_of vs f xs)) miss))
      (cases_Bool (same_key v (f, xs, 0)))
    where
      by : (c : Bool) → same_key v (f, xs, 0) ≡ false → value_of (cond c (v ∷ those test b vs) (those test b vs) ++ rest) f xs ≡ value_of (those test b vs ++ rest) f xs
      by true miss = ap (λ d. cond d (Some v.2) (value_of (those test b vs ++ rest) f xs)) miss
      by false miss = refl

  value_dropped : (vs rest : List Key) → value_of (those test (not b) vs ++ rest) f xs ≡ value_of rest f xs
  value_dropped [] rest = refl
  value_dropped (v ∷ vs) rest =
      ⊎_elim
      (λ hit.
      let fails : beq (test v) (not b) ≡ false = ap (λ c. beq c (not b)) (agree v hit) ∙ beq_other b in
      ap (λ c. value_of (cond c (v ∷ those test (not b) vs) (those test (not b) vs) ++ rest) f xs) fails ∙ value_dropped vs rest)
      (λ miss. by (beq (test v) (not b)) miss ∙ value_dropped vs rest)
      (cases_Bool (same_key v (f, xs, 0)))
    where
      by : (c : Bool) → same_key v (f, xs, 0) ≡ false → value_of (cond c (v ∷ those test (not b) vs) (those test (not b) vs) ++ rest) f xs ≡ value_of (those test (not b) vs ++ rest) f xs
      by true miss = ap (λ d. cond d (Some v.2) (value_of (those test (not b) vs ++ rest) f xs)) miss
      by false miss = refl

value_blended : (f : ℕ) (xs : List ℕ) (test : Key → Bool) (b : Bool) → ((v : Key) → same_key v (f, xs, 0) ≡ true → test v ≡ b) → (ps us : List Key)
    → value_of (blended test ps us) f xs ≡ cond b (value_of ps f xs) (value_of us f xs)
value_blended f xs test true agree ps us =
    value_kept f xs test true agree ps (those test false us)
    (ap (λ vs. value_of vs f xs) (sym (append-nil (those test false us))) ∙ value_dropped f xs test true agree us [])
value_blended f xs test false agree ps us =
    value_dropped f xs test false agree ps (those test false us)
    ∙ ap (λ vs. value_of vs f xs) (sym (append-nil (those test false us)))
    ∙ value_kept f xs test false agree us [] refl

-- ---- a blended list keeps what both lists keep

pub blended_facts : {X : Type 0} (passes : X → Bool) (R : X → X → Type 0) (test : X → Bool) → ((x y : X) → R x y → test x ≡ test y) → (ps us : List X) → ListFacts passes R ps → ListFacts passes R us → ListFacts passes R (blended test ps us)
blended_facts passes R test respects ps us first second = record {
  fit =
      All-append (λ x. IsTrue (passes x)) (those test true ps) (those test false us)
      (All-filter (λ x. beq (test x) true) (λ x. IsTrue (passes x)) ps first.fit) (All-filter (λ x. beq (test x) false) (λ x. IsTrue (passes x)) us second.fit);
  apart =
      pairs_append (λ x y. ¬ R x y) (those test true ps) (those test false us)
      (AllPairs-filter (λ x y. ¬ R x y) (λ x. beq (test x) true) ps first.apart) (AllPairs-filter (λ x y. ¬ R x y) (λ x. beq (test x) false) us second.apart)
      (All-weaker (λ x. beq (test x) true ≡ true) (λ x. All (λ y. ¬ R x y) (those test false us))
      (λ x on.
      All-weaker (λ y. beq (test y) false ≡ true) (λ y. ¬ R x y)
      (λ y off r. true≢false (sym (beq_same (test x) true on) ∙ respects x y r ∙ beq_same (test y) false off))
      (those test false us) (filter_passes (λ y. beq (test y) false) us))
      (those test true ps) (filter_passes (λ x. beq (test x) true) ps));
}

-- ---- schemas

append_before : {X : Type 0} (xs ys : List X) (n : ℕ) → n < length xs → slice_get (xs ++ ys) n ≡ slice_get xs n
append_before [] ys n lt = absurd (omega (arith, lt))
append_before (x ∷ xs) ys zero lt = refl
append_before (x ∷ xs) ys (suc n) lt = append_before xs ys n (omega arith)

append_at : {X : Type 0} (xs : List X) (y : X) → slice_get (xs ++ y ∷ []) (length xs) ≡ Some y
append_at [] y = refl
append_at (x ∷ xs) y = append_at xs y

pub none_blended : (test : Place → Bool) (ps us made : List Schema) → made ≡ [] → AreBlended test ps us 0 made
none_blended test ps us made e = record { counted = ap length e; each = λ n s t lt. absurd (omega (arith, lt)) }

-- one more schema
pub blended_more : (test : Place → Bool) (ps us : List Schema) (i : ℕ) (s t : Schema) → slice_get ps i ≡ Some s → slice_get us i ≡ Some t → (old new : List Schema) (r : Schema) → r ≡ blended_schema test i s t → new ≡ old ++ r ∷ []
    → AreBlended test ps us i old → AreBlended test ps us (i + 1) new
blended_more test ps us i s t at_s at_t old new r r_is now before = record {
  counted = ap length now ∙ length-append old (r ∷ []) ∙ omega (arith, before.counted);
  each = λ n a b lt at_a at_b.
      ⊎_elim
      (λ same.
      let here : slice_get new n ≡ Some r = (λ j. slice_get (now j) (same j)) ∙ ap (slice_get (old ++ r ∷ [])) (sym before.counted) ∙ append_at old r in
      let first : slice_get ps i ≡ Some a = subst (λ m. slice_get ps m ≡ Some a) same at_a in
      let second : slice_get us i ≡ Some b = subst (λ m. slice_get us m ≡ Some b) same at_b in
      let a_is : s ≡ a = cc in
      let b_is : t ≡ b = cc in
      here ∙ ap Some (r_is ∙ (λ j. blended_schema test (sym same j) (a_is j) (b_is j))))
      (λ apart.
      ⊎_elim (λ less. ap (λ xs. slice_get xs n) now ∙ append_before old (r ∷ []) n (omega (arith, less, before.counted)) ∙ before.each n a b less at_a at_b) (λ more. absurd (omega (arith, lt, more))) apart)
      (cases_order n i);
}

-- ---- the facts of a blended model

blended_schema_facts : (test : Place → Bool) (words : Vocabulary) (params : List ℕ) (n : ℕ) (s t : Schema) → SchemaFacts words params s → SchemaFacts words params t → SchemaFacts words params (blended_schema test n s t)
blended_schema_facts test words params n s t first second = record {
  pre_kept = blended_facts (is_schema_atom words params) (λ f g. f ≡ g) (λ f. test (place.Pre n f)) (λ f g e. ap (λ h. test (place.Pre n h)) e) s.pre t.pre first.pre_kept second.pre_kept;
  add_kept = blended_facts (is_schema_atom words params) (λ f g. f ≡ g) (λ f. test (place.Add n f)) (λ f g e. ap (λ h. test (place.Add n h)) e) s.add t.add first.add_kept second.add_kept;
  del_kept = blended_facts (is_schema_atom words params) (λ f g. f ≡ g) (λ f. test (place.Del n f)) (λ f g e. ap (λ h. test (place.Del n h)) e) s.del t.del first.del_kept second.del_kept;
  cost_fits = by (test (place.Cost n));
}
  where
    by : (b : Bool) → is_cost words params (cond b s.cost t.cost) ≡ true
    by true = first.cost_fits
    by false = second.cost_fits

module _ (planner user : Model) (joint : user.words ≡ planner.words) (test : Place → Bool) where
  -- the user's lists in the planner's words
  user_facts : ModelFacts planner.words user.init user.goal user.schemas user.values user.unknown
  user_facts = subst (λ w. ModelFacts w user.init user.goal user.schemas user.values user.unknown) joint (facts_of_model user)

  pub both_count : length user.schemas ≡ length planner.schemas
  both_count = user_facts.one_each ∙ sym (facts_of_model planner).one_each

  blend_facts : (schemas : List Schema) → AreBlended test planner.schemas user.schemas (length planner.schemas) schemas
      → ModelFacts planner.words (blended (λ a. test (place.Init a)) planner.init user.init) (blended (λ a. test (place.Goal a)) planner.goal user.goal) schemas
      (blended (λ v. test (place.Value v.0 v.1)) planner.values user.values) (blended (λ n. test (place.Knows n)) planner.unknown user.unknown)
  blend_facts schemas are =
      let own = facts_of_model planner in
      let other = user_facts in
      record {
        init_kept = blended_facts (is_ground_atom planner.words) (λ a b. a ≡ b) (λ a. test (place.Init a)) (λ a b e. ap (λ c. test (place.Init c)) e) planner.init user.init own.init_kept other.init_kept;
        goal_kept = blended_facts (is_ground_atom planner.words) (λ a b. a ≡ b) (λ a. test (place.Goal a)) (λ a b e. ap (λ c. test (place.Goal c)) e) planner.goal user.goal own.goal_kept other.goal_kept;
        one_each = are.counted ∙ own.one_each;
        schemas_kept = λ n schema action at at_action.
            let within : n < length planner.schemas = omega (arith, slice_get_within schemas n schema at, are.counted) in
            let s = item_at planner.schemas n within in
            let t = item_at user.schemas n (omega (arith, within, both_count)) in
            let made : slice_get schemas n ≡ Some (blended_schema test n s.0 t.0) = are.each n s.0 t.0 within s.1 t.1 in
            let is : blended_schema test n s.0 t.0 ≡ schema = cc in
            subst (SchemaFacts planner.words action.params) is
            (blended_schema_facts test planner.words action.params n s.0 t.0 (own.schemas_kept n s.0 action s.1 at_action) (other.schemas_kept n t.0 action t.1 at_action));
        values_kept =
            blended_facts (is_value planner.words) (λ v w. (v.0 ≡ w.0) × (v.1 ≡ w.1)) (λ v. test (place.Value v.0 v.1)) (λ v w e. (λ i. test (place.Value (e.0 i) (e.1 i)))) planner.values user.values own.values_kept other.values_kept;
        unknown_kept = blended_facts (is_action planner.words) (λ m n. m ≡ n) (λ n. test (place.Knows n)) (λ m n e. ap (λ k. test (place.Knows k)) e) planner.unknown user.unknown own.unknown_kept other.unknown_kept;
      }

  pub blend_sound : (words : Vocabulary) (init goal : List GroundAtom) (schemas : List Schema) (values : List Key) (unknown : List ℕ)
      → words ≡ planner.words → init ≡ blended (λ a. test (place.Init a)) planner.init user.init → goal ≡ blended (λ a. test (place.Goal a)) planner.goal user.goal
      → AreBlended test planner.schemas user.schemas (length planner.schemas) schemas → values ≡ blended (λ v. test (place.Value v.0 v.1)) planner.values user.values
      → unknown ≡ blended (λ n. test (place.Knows n)) planner.unknown user.unknown → is_model words init goal schemas values unknown ≡ true
  blend_sound words init goal schemas values unknown words_is init_is goal_is are values_is unknown_is =
      (λ i. is_model (words_is i) (init_is i) (goal_is i) schemas (values_is i) (unknown_is i))
      ∙ model_sound planner.words (blended (λ a. test (place.Init a)) planner.init user.init) (blended (λ a. test (place.Goal a)) planner.goal user.goal) schemas
      (blended (λ v. test (place.Value v.0 v.1)) planner.values user.values) (blended (λ n. test (place.Knows n)) planner.unknown user.unknown) (blend_facts schemas are)

  -- ---- what a blended model means

  module _ (model : Model) (blend : IsBlend test planner user model) where
    on_cond : (b x y : Bool) → Feature (cond b x y) ≡ cond b (Feature x) (Feature y)
    on_cond true x y = refl
    on_cond false x y = refl

    price_cond : (b : Bool) (x y : CostExpr) → Price (cond b x y) ≡ cond b (Price x) (Price y)
    price_cond true x y = refl
    price_cond false x y = refl

    worth_cond : (b : Bool) (x y : Option ℕ) → Worth (cond b x y) ≡ cond b (Worth x) (Worth y)
    worth_cond true x y = refl
    worth_cond false x y = refl

    not_cond : (b l x y : Bool) → Feature (l && not (cond b x y)) ≡ cond b (Feature (l && not x)) (Feature (l && not y))
    not_cond true l x y = refl
    not_cond false l x y = refl

    same_cond : {C : Type 0} (b : Bool) (x : C) → x ≡ cond b x x
    same_cond true x = refl
    same_cond false x = refl

    -- what is read from the schema of an action
    schema_means : (i : ℕ) (b : Bool) (read : Option Schema → Content) → ((s t : Schema) → read (Some (blended_schema test i s t)) ≡ cond b (read (Some s)) (read (Some t)))
        → read (slice_get model.schemas i) ≡ cond b (read (slice_get planner.schemas i)) (read (slice_get user.schemas i))
    schema_means i b read reads =
        ⊎_elim (λ same. past (omega (arith, same)))
        (λ apart.
        ⊎_elim
        (λ less.
        let s = item_at planner.schemas i less in
        let t = item_at user.schemas i (omega (arith, less, both_count)) in
        ap read (blend.schemas.each i s.0 t.0 less s.1 t.1) ∙ reads s.0 t.0 ∙ (λ j. cond b (read (sym s.1 j)) (read (sym t.1 j))))
        (λ more. past (omega (arith, more))) apart)
        (cases_order i (length planner.schemas))
      where
        past : length planner.schemas ≤ i → read (slice_get model.schemas i) ≡ cond b (read (slice_get planner.schemas i)) (read (slice_get user.schemas i))
        past beyond =
            ap read (slice_get_past model.schemas i (omega (arith, beyond, blend.schemas.counted)))
            ∙ same_cond b (read None)
            ∙ (λ j. cond b (read (sym (slice_get_past planner.schemas i beyond) j)) (read (sym (slice_get_past user.schemas i (omega (arith, beyond, both_count))) j)))

    pub blend_means : (p : Place) → meaning model p ≡ cond (test p) (meaning planner p) (meaning user p)
    blend_means (place.Init a) =
        ap (λ xs. Feature (list_any (same_atom a) xs)) blend.init
        ∙ ap Feature (any_blended (same_atom a) (λ x. test (place.Init x)) (test (place.Init a)) (λ x hit. ap (λ y. test (place.Init y)) (sym ((same_atom-decides a x).0 hit))) planner.init user.init)
        ∙ on_cond (test (place.Init a)) (list_any (same_atom a) planner.init) (list_any (same_atom a) user.init)
    blend_means (place.Goal a) =
        ap (λ xs. Feature (list_any (same_atom a) xs)) blend.goal
        ∙ ap Feature (any_blended (same_atom a) (λ x. test (place.Goal x)) (test (place.Goal a)) (λ x hit. ap (λ y. test (place.Goal y)) (sym ((same_atom-decides a x).0 hit))) planner.goal user.goal)
        ∙ on_cond (test (place.Goal a)) (list_any (same_atom a) planner.goal) (list_any (same_atom a) user.goal)
    blend_means (place.Knows i) =
        (λ j. Feature (nat_lt i (blend.schemas.counted j) && not (list_any (λ u. u == i) (blend.unknown j))))
        ∙ ap (λ c. Feature (nat_lt i (length planner.schemas) && not c))
        (any_blended (λ u. u == i) (λ n. test (place.Knows n)) (test (place.Knows i)) (λ n hit. ap (λ m. test (place.Knows m)) (eqb-true n i hit)) planner.unknown user.unknown)
        ∙ not_cond (test (place.Knows i)) (nat_lt i (length planner.schemas)) (list_any (λ u. u == i) planner.unknown) (list_any (λ u. u == i) user.unknown)
        ∙ ap (λ n. cond (test (place.Knows i)) (meaning planner (place.Knows i)) (Feature (nat_lt i n && not (list_any (λ u. u == i) user.unknown)))) (sym both_count)
    blend_means (place.Pre i f) =
        schema_means i (test (place.Pre i f)) (λ o. Feature (option_map_or (λ (s : Schema). list_any (same_schema_atom f) s.pre) o false))
        (λ s t.
        ap Feature (any_blended (same_schema_atom f) (λ g. test (place.Pre i g)) (test (place.Pre i f)) (λ g hit. ap (λ h. test (place.Pre i h)) (sym ((same_schema_atom-decides f g).0 hit))) s.pre t.pre)
        ∙ on_cond (test (place.Pre i f)) (list_any (same_schema_atom f) s.pre) (list_any (same_schema_atom f) t.pre))
    blend_means (place.Add i f) =
        schema_means i (test (place.Add i f)) (λ o. Feature (option_map_or (λ (s : Schema). list_any (same_schema_atom f) s.add) o false))
        (λ s t.
        ap Feature (any_blended (same_schema_atom f) (λ g. test (place.Add i g)) (test (place.Add i f)) (λ g hit. ap (λ h. test (place.Add i h)) (sym ((same_schema_atom-decides f g).0 hit))) s.add t.add)
        ∙ on_cond (test (place.Add i f)) (list_any (same_schema_atom f) s.add) (list_any (same_schema_atom f) t.add))
    blend_means (place.Del i f) =
        schema_means i (test (place.Del i f)) (λ o. Feature (option_map_or (λ (s : Schema). list_any (same_schema_atom f) s.del) o false))
        (λ s t.
        ap Feature (any_blended (same_schema_atom f) (λ g. test (place.Del i g)) (test (place.Del i f)) (λ g hit. ap (λ h. test (place.Del i h)) (sym ((same_schema_atom-decides f g).0 hit))) s.del t.del)
        ∙ on_cond (test (place.Del i f)) (list_any (same_schema_atom f) s.del) (list_any (same_schema_atom f) t.del))
    blend_means (place.Cost i) =
        schema_means i (test (place.Cost i)) (λ o. option_map_or (λ (s : Schema). Price s.cost) o Nothing) (λ s t. price_cond (test (place.Cost i)) s.cost t.cost)
    blend_means (place.Value f xs) =
        ap (λ vs. Worth (value_of vs f xs)) blend.values
        ∙ ap Worth
        (value_blended f xs (λ v. test (place.Value v.0 v.1)) (test (place.Value f xs)) (λ v hit. let same = (key_decides v (f, xs, 0)).0 hit in (λ j. test (place.Value (same.0 j) (same.1 j)))) planner.values user.values)
        ∙ worth_cond (test (place.Value f xs)) (value_of planner.values f xs) (value_of user.values f xs)
