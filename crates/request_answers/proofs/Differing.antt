-- Two models in the numbers of one vocabulary have a list of all their differences: the places at which they differ, in order, each with its content in both models.
use Rattle.std.proofs.Common.{◌≡◌, ℕ, ◌<◌, ◌^◌, Bool, true, false, cond, ◌&&◌, not, List, [], ◌∷◌, ◌++◌, length, map, Option, None, Some, refl, sym, ap, subst, ◌∙◌, arith, ⊎_elim, inl, inr}
use Rattle.std.specs.Prelude.{◌⊎◌, ◌≢◌, ◌==◌, nat_lt, All, Contains, IsTrue, slice_get}
use Rattle.std.specs.Bool.{beq}
use Rattle.std.specs.List.{flat_map, list_any, range_with_len}
use Rattle.std.specs.Option.{option_map_or}
use Rattle.std.specs.Cmp.Lexicographic.{pointwise, pointwise_decides}
use Rattle.std.proofs.lemmas.Bool.{and_parts, ltb-true, cases_lt, cases_order}
use Rattle.std.proofs.lemmas.Bool.Decides.{Decides-eqb}
use Rattle.std.proofs.lemmas.List.Elements.{All-nil, All-cons, All-contains, Contains-append_left, Contains-append_right}
use Rattle.std.proofs.lemmas.Option.{slice_get_past, slice_get_within}
use Rattle.mre_base.proofs.Loops.{contains_here, contains_later}
use Rattle.mre_base.proofs.Listed.{item_at, map-contains}
use Rattle.model_kit.specs.declared.vocabulary.Vocabulary.{Vocabulary}
use Rattle.model_kit.specs.declared.vocabulary.Signature.{Signature}
use Rattle.model_kit.specs.declared.atom.GroundAtom.{GroundAtom}
use Rattle.model_kit.specs.declared.atom.SchemaAtom.{SchemaAtom}
use Rattle.model_kit.specs.declared.model.Model.{Model}
use Rattle.model_kit.specs.declared.model.Schema.{Schema}
use Rattle.model_kit.specs.declared.model.CostExpr.{CostExpr}
use Rattle.model_kit.specs.declared.model.CostExpr.TheVariants.{Number, Call}
use Rattle.model_kit.specs.Same.{same_numbers, same_term, same_atom, same_schema_atom}
use Rattle.model_kit.specs.Vocabulary.{is_object_of, fits_signature, is_ground_atom, is_schema_atom}
use Rattle.model_kit.specs.Features.{is_value}
use Rattle.model_kit.specs.Places.{Place, Init, Goal, Knows, Pre, Add, Del, Cost, Value, Content, Feature, Price, Worth, Nothing, meaning, schema_has, value_of}
use Rattle.model_kit.specs.Printed.{printed}
use Rattle.model_kit.specs.Differences.{group, IsListedBefore, AreDifferences}
use Rattle.model_kit.proofs.Alike.{same_numbers-decides, same_term-decides, same_atom-decides, same_schema_atom-decides}
use Rattle.model_kit.proofs.FormLemmas.{atom_form-injective, function_form-injective, schema_atom_form-injective}
use Rattle.model_kit.proofs.ListLemmas.{beq-decides, range_contains, flat_contains}
use Rattle.model_kit.proofs.ModelFacts.{SchemaFacts, facts_of_model}
use Rattle.model_kit.proofs.PatchedLemmas.{listed_atoms, has_listed}
use Rattle.model_kit.proofs.StepLemmas.{listed_from_any}
use Rattle.model_kit.proofs.TypeLemmas.{entry_passes}
use Rattle.feature_diff.specs.declared.difference.Difference.{Difference}
use Rattle.feature_diff.specs.declared.difference.Difference.TheVariants as difference
use Rattle.feature_diff.specs.Differing.{place_of, places_of, Says, IsCost, FitsWords, AreDifferencesOf}
use Rattle.joint_models.proofs.Sorting.{kept_of, pairs_of, equal_known, texts_trans, texts_total}

-- ---- equal contents

cost_known : (c d : CostExpr) → (c ≡ d) ⊎ ¬ (c ≡ d)
cost_known (Number n) (Number m) = ⊎_elim (λ is. inl (ap Number is)) (λ other. inr (λ same. other (cc))) (equal_known ◌==◌ Decides-eqb n m)
cost_known (Number n) (Call g ys) = inr (λ same. cc)
cost_known (Call f xs) (Number m) = inr (λ same. cc)
cost_known (Call f xs) (Call g ys) = by (equal_known ◌==◌ Decides-eqb f g) (equal_known (pointwise same_term) (pointwise_decides same_term-decides) xs ys)
  where
    by : (f ≡ g) ⊎ ¬ (f ≡ g) → (xs ≡ ys) ⊎ ¬ (xs ≡ ys) → (Call f xs ≡ Call g ys) ⊎ ¬ (Call f xs ≡ Call g ys)
    by (inl one) (inl two) = inl (λ i. Call (one i) (two i))
    by (inl one) (inr other) = inr (λ same. other (cc))
    by (inr other) two = inr (λ same. other (cc))

worth_known : (o p : Option ℕ) → (o ≡ p) ⊎ ¬ (o ≡ p)
worth_known None None = inl refl
worth_known None (Some m) = inr (λ same. cc)
worth_known (Some n) None = inr (λ same. cc)
worth_known (Some n) (Some m) = ⊎_elim (λ is. inl (ap Some is)) (λ other. inr (λ same. other (cc))) (equal_known ◌==◌ Decides-eqb n m)

content_known : (c d : Content) → (c ≡ d) ⊎ ¬ (c ≡ d)
content_known (Feature b) (Feature c) = ⊎_elim (λ is. inl (ap Feature is)) (λ other. inr (λ same. other (cc))) (equal_known beq beq-decides b c)
content_known (Price b) (Price c) = ⊎_elim (λ is. inl (ap Price is)) (λ other. inr (λ same. other (cc))) (cost_known b c)
content_known (Worth o) (Worth p) = ⊎_elim (λ is. inl (ap Worth is)) (λ other. inr (λ same. other (cc))) (worth_known o p)
content_known Nothing Nothing = inl refl
content_known _ _ = inr (λ same. cc)

-- features that differ: one of them is on
one_is_on : (b c : Bool) → Feature b ≢ Feature c → (b ≡ true) ⊎ (c ≡ true)
one_is_on true c differ = inl refl
one_is_on false true differ = inr refl
one_is_on false false differ = absurd (differ refl)

-- values that differ: one of them is there
one_is_there : (o p : Option ℕ) → Worth o ≢ Worth p → ((n : ℕ) × (o ≡ Some n)) ⊎ ((n : ℕ) × (p ≡ Some n))
one_is_there (Some n) p differ = inl (n, refl)
one_is_there None (Some n) differ = inr (n, refl)
one_is_there None None differ = absurd (differ refl)

-- a value is one of the list
value_listed : (vs : List (ℕ × List ℕ × ℕ)) (f : ℕ) (xs : List ℕ) (n : ℕ) → value_of vs f xs ≡ Some n → (v : ℕ × List ℕ × ℕ) × Contains vs v × (v.0 ≡ f) × (v.1 ≡ xs)
value_listed [] f xs n e = absurd (cc)
value_listed (v ∷ vs) f xs n e = by (value_listed vs f xs n) ((v.0 == f) && same_numbers v.1 xs) refl e
  where
    by : (value_of vs f xs ≡ Some n → (w : ℕ × List ℕ × ℕ) × Contains vs w × (w.0 ≡ f) × (w.1 ≡ xs)) → (b : Bool) → ((v.0 == f) && same_numbers v.1 xs) ≡ b
        → value_of (v ∷ vs) f xs ≡ Some n → (w : ℕ × List ℕ × ℕ) × Contains (v ∷ vs) w × (w.0 ≡ f) × (w.1 ≡ xs)
    by later true hit e =
        let parts = and_parts (v.0 == f) (same_numbers v.1 xs) hit in
        (v, contains_here v vs, (Decides-eqb v.0 f).0 parts.0, (same_numbers-decides v.1 xs).0 parts.1)
    by later false miss e =
        let at = later (sym (ap (λ b. cond b (Some v.2) (value_of vs f xs)) miss) ∙ e) in
        (at.0, contains_later v vs at.0 at.1, at.2, at.3)

-- ---- what one model lists fits

module _ (words : Vocabulary) (model : Model) (same : model.words ≡ words) where
  atom_fits : (atoms : List GroundAtom) → All (λ a. IsTrue (is_ground_atom model.words a)) atoms → (a : GroundAtom) → Contains atoms a → IsTrue (is_ground_atom words a)
  atom_fits atoms fit a there = subst (λ w. IsTrue (is_ground_atom w a)) same (All-contains (λ b. IsTrue (is_ground_atom model.words b)) atoms a fit there)

  schemas_count : length model.schemas ≡ length words.actions
  schemas_count = (facts_of_model model).one_each ∙ ap (λ (w : Vocabulary). length w.actions) same

  abbrev FitsAction : ℕ → SchemaAtom → Type 0
  FitsAction i f = (action : Signature) × (slice_get words.actions i ≡ Some action) × IsTrue (is_schema_atom words action.params f)

  part_fits : (part : Schema → List SchemaAtom) → ((params : List ℕ) (schema : Schema) → SchemaFacts model.words params schema → All (λ f. IsTrue (is_schema_atom model.words params f)) (part schema))
      → (i : ℕ) (f : SchemaAtom) → schema_has part model i f ≡ true → FitsAction i f
  part_fits part kept i f on =
      let entry = entry_passes (λ s. list_any (same_schema_atom f) (part s)) model.schemas i on in
      let within : i < length model.words.actions = rw (← (facts_of_model model).one_each) (slice_get_within model.schemas i entry.0 entry.1) in
      let action = item_at model.words.actions i within in
      let fit = All-contains (λ g. IsTrue (is_schema_atom model.words action.0.params g)) (part entry.0) f (kept action.0.params entry.0 ((facts_of_model model).schemas_kept i entry.0 action.0 entry.1 action.1))
      (listed_from_any same_schema_atom same_schema_atom-decides f (part entry.0) entry.2) in
      subst (λ (w : Vocabulary). (a : Signature) × (slice_get w.actions i ≡ Some a) × IsTrue (is_schema_atom w a.params f)) same (action.0, action.1, fit)

  value_fits : (f : ℕ) (xs : List ℕ) (n : ℕ) → value_of model.values f xs ≡ Some n
      → ((v : ℕ × List ℕ × ℕ) × Contains model.values v × (v.0 ≡ f) × (v.1 ≡ xs)) × (fits_signature (is_object_of words) words.functions f xs ≡ true)
  value_fits f xs n is =
      let v = value_listed model.values f xs n is in
      let fit = All-contains (λ w. IsTrue (is_value model.words w)) model.values v.0 (facts_of_model model).values_kept.fit v.1 in
      let moved : fits_signature (is_object_of model.words) model.words.functions f xs ≡ true = subst (λ ys. fits_signature (is_object_of model.words) model.words.functions f ys ≡ true) v.3 (subst (λ g. fits_signature (is_object_of model.words) model.words.functions g v.0.1 ≡ true) v.2 fit) in
      (v, subst (λ (w : Vocabulary). fits_signature (is_object_of w) w.functions f xs ≡ true) same moved)

module _ (planner user : Model) (joint : user.words ≡ planner.words) where
  abbrev words : Vocabulary
  words = planner.words

  abbrev pub Differs : Place → Type 0
  Differs p = meaning planner p ≢ meaning user p

  -- ---- places that may differ

  -- the place names what the vocabulary has
  abbrev pub IsSound : Place → Type 0
  IsSound (Init a) = IsTrue (is_ground_atom words a)
  IsSound (Goal a) = IsTrue (is_ground_atom words a)
  IsSound (Knows i) = i < length words.actions
  IsSound (Pre i f) = (action : Signature) × (slice_get words.actions i ≡ Some action) × IsTrue (is_schema_atom words action.params f)
  IsSound (Add i f) = (action : Signature) × (slice_get words.actions i ≡ Some action) × IsTrue (is_schema_atom words action.params f)
  IsSound (Del i f) = (action : Signature) × (slice_get words.actions i ≡ Some action) × IsTrue (is_schema_atom words action.params f)
  IsSound (Cost i) = i < length words.actions
  IsSound (Value f xs) = fits_signature (is_object_of words) words.functions f xs ≡ true

  abbrev numbers : List ℕ
  numbers = range_with_len 0 (length words.actions)

  abbrev atoms_of : (Schema → List SchemaAtom) → ℕ → List SchemaAtom
  atoms_of part i = listed_atoms part planner i ++ listed_atoms part user i

  abbrev part_places : (ℕ → SchemaAtom → Place) → (Schema → List SchemaAtom) → List Place
  part_places place part = flat_map (λ i. map (place i) (atoms_of part i)) numbers

  abbrev facts : List Place
  facts = map Init (planner.init ++ user.init)

  abbrev goals : List Place
  goals = map Goal (planner.goal ++ user.goal)

  abbrev atoms : List Place
  atoms = part_places Pre (λ s. s.pre) ++ (part_places Add (λ s. s.add) ++ part_places Del (λ s. s.del))

  abbrev values : List Place
  values = map (λ v. Value v.0 v.1) (planner.values ++ user.values)

  -- all places at which one of the models lists something
  abbrev candidates : List Place
  candidates = facts ++ (goals ++ (map Knows numbers ++ (map Cost numbers ++ (atoms ++ values))))

  abbrev IsListed : Place → Type 0
  IsListed p = Contains candidates p × IsSound p

  in_facts : (p : Place) → Contains facts p → Contains candidates p
  in_facts p at = Contains-append_left facts (goals ++ (map Knows numbers ++ (map Cost numbers ++ (atoms ++ values)))) p at

  in_goals : (p : Place) → Contains goals p → Contains candidates p
  in_goals p at = Contains-append_right facts (goals ++ (map Knows numbers ++ (map Cost numbers ++ (atoms ++ values)))) p (Contains-append_left goals (map Knows numbers ++ (map Cost numbers ++ (atoms ++ values))) p at)

  past_goals : (p : Place) → Contains (map Knows numbers ++ (map Cost numbers ++ (atoms ++ values))) p → Contains candidates p
  past_goals p at = Contains-append_right facts (goals ++ (map Knows numbers ++ (map Cost numbers ++ (atoms ++ values)))) p (Contains-append_right goals (map Knows numbers ++ (map Cost numbers ++ (atoms ++ values))) p at)

  in_known : (i : ℕ) → i < length words.actions → Contains candidates (Knows i)
  in_known i lt = past_goals (Knows i) (Contains-append_left (map Knows numbers) (map Cost numbers ++ (atoms ++ values)) (Knows i) (map-contains Knows numbers i (range_contains (length words.actions) i lt)))

  in_costs : (i : ℕ) → i < length words.actions → Contains candidates (Cost i)
  in_costs i lt =
      past_goals (Cost i) (Contains-append_right (map Knows numbers) (map Cost numbers ++ (atoms ++ values)) (Cost i)
      (Contains-append_left (map Cost numbers) (atoms ++ values) (Cost i) (map-contains Cost numbers i (range_contains (length words.actions) i lt))))

  past_costs : (p : Place) → Contains (atoms ++ values) p → Contains candidates p
  past_costs p at = past_goals p (Contains-append_right (map Knows numbers) (map Cost numbers ++ (atoms ++ values)) p (Contains-append_right (map Cost numbers) (atoms ++ values) p at))

  in_atoms : (p : Place) → Contains atoms p → Contains candidates p
  in_atoms p at = past_costs p (Contains-append_left atoms values p at)

  in_values : (p : Place) → Contains values p → Contains candidates p
  in_values p at = past_costs p (Contains-append_right atoms values p at)

  -- an atom of a schema in one of the models
  in_part : (place : ℕ → SchemaAtom → Place) (part : Schema → List SchemaAtom) (i : ℕ) (f : SchemaAtom) → i < length words.actions
      → (schema_has part planner i f ≡ true) ⊎ (schema_has part user i f ≡ true) → Contains (part_places place part) (place i f)
  in_part place part i f lt one =
      flat_contains (λ j. map (place j) (atoms_of part j)) numbers i (place i f) (range_contains (length words.actions) i lt)
      (map-contains (place i) (atoms_of part i) f
      (⊎_elim
      (λ e. Contains-append_left (listed_atoms part planner i) (listed_atoms part user i) f (has_listed part planner i f e))
      (λ e. Contains-append_right (listed_atoms part planner i) (listed_atoms part user i) f (has_listed part user i f e))
      one))

  part_sound : (part : Schema → List SchemaAtom)
      → ((w : Vocabulary) (params : List ℕ) (schema : Schema) → SchemaFacts w params schema → All (λ f. IsTrue (is_schema_atom w params f)) (part schema))
      → (i : ℕ) (f : SchemaAtom) → (schema_has part planner i f ≡ true) ⊎ (schema_has part user i f ≡ true) → FitsAction words planner refl i f
  part_sound part kept i f one =
      ⊎_elim (λ e. part_fits words planner refl part (kept planner.words) i f e) (λ e. part_fits words user joint part (kept user.words) i f e) one

  -- the models differ only at such places
  differs_listed : (p : Place) → Differs p → IsListed p
  differs_listed (Init a) differ =
      ⊎_elim
      (λ e. let at = listed_from_any same_atom same_atom-decides a planner.init e in (
        in_facts (Init a) (map-contains Init (planner.init ++ user.init) a (Contains-append_left planner.init user.init a at)),
        atom_fits words planner refl planner.init (facts_of_model planner).init_kept.fit a at,
      ))
      (λ e. let at = listed_from_any same_atom same_atom-decides a user.init e in (
        in_facts (Init a) (map-contains Init (planner.init ++ user.init) a (Contains-append_right planner.init user.init a at)),
        atom_fits words user joint user.init (facts_of_model user).init_kept.fit a at,
      ))
      (one_is_on (list_any (same_atom a) planner.init) (list_any (same_atom a) user.init) differ)
  differs_listed (Goal a) differ =
      ⊎_elim
      (λ e. let at = listed_from_any same_atom same_atom-decides a planner.goal e in (
        in_goals (Goal a) (map-contains Goal (planner.goal ++ user.goal) a (Contains-append_left planner.goal user.goal a at)),
        atom_fits words planner refl planner.goal (facts_of_model planner).goal_kept.fit a at,
      ))
      (λ e. let at = listed_from_any same_atom same_atom-decides a user.goal e in (
        in_goals (Goal a) (map-contains Goal (planner.goal ++ user.goal) a (Contains-append_right planner.goal user.goal a at)),
        atom_fits words user joint user.goal (facts_of_model user).goal_kept.fit a at,
      ))
      (one_is_on (list_any (same_atom a) planner.goal) (list_any (same_atom a) user.goal) differ)
  differs_listed (Knows i) differ =
      let unlisted : (model : Model) → Bool = λ model. not (list_any (λ unknown. unknown == i) model.unknown) in
      let lt : i < length words.actions =
      ⊎_elim
      (λ e. rw (← schemas_count words planner refl) (ltb-true i (length planner.schemas) (and_parts (nat_lt i (length planner.schemas)) (unlisted planner) e).0))
      (λ e. rw (← schemas_count words user joint) (ltb-true i (length user.schemas) (and_parts (nat_lt i (length user.schemas)) (unlisted user) e).0))
      (one_is_on (nat_lt i (length planner.schemas) && unlisted planner) (nat_lt i (length user.schemas) && unlisted user) differ) in
      (in_known i lt, lt)
  differs_listed (Pre i f) differ =
      let one = one_is_on (schema_has (λ s. s.pre) planner i f) (schema_has (λ s. s.pre) user i f) differ in
      let fit = part_sound (λ s. s.pre) (λ w params schema facts. facts.pre_kept.fit) i f one in (
        in_atoms (Pre i f) (Contains-append_left (part_places Pre (λ s. s.pre)) (part_places Add (λ s. s.add) ++ part_places Del (λ s. s.del)) (Pre i f) (in_part Pre (λ s. s.pre) i f (slice_get_within words.actions i fit.0 fit.1) one)),
        fit,
      )
  differs_listed (Add i f) differ =
      let one = one_is_on (schema_has (λ s. s.add) planner i f) (schema_has (λ s. s.add) user i f) differ in
      let fit = part_sound (λ s. s.add) (λ w params schema facts. facts.add_kept.fit) i f one in (
        in_atoms (Add i f) (Contains-append_right (part_places Pre (λ s. s.pre)) (part_places Add (λ s. s.add) ++ part_places Del (λ s. s.del)) (Add i f)
            (Contains-append_left (part_places Add (λ s. s.add)) (part_places Del (λ s. s.del)) (Add i f) (in_part Add (λ s. s.add) i f (slice_get_within words.actions i fit.0 fit.1) one))),
        fit,
      )
  differs_listed (Del i f) differ =
      let one = one_is_on (schema_has (λ s. s.del) planner i f) (schema_has (λ s. s.del) user i f) differ in
      let fit = part_sound (λ s. s.del) (λ w params schema facts. facts.del_kept.fit) i f one in (
        in_atoms (Del i f) (Contains-append_right (part_places Pre (λ s. s.pre)) (part_places Add (λ s. s.add) ++ part_places Del (λ s. s.del)) (Del i f)
            (Contains-append_right (part_places Add (λ s. s.add)) (part_places Del (λ s. s.del)) (Del i f) (in_part Del (λ s. s.del) i f (slice_get_within words.actions i fit.0 fit.1) one))),
        fit,
      )
  differs_listed (Cost i) differ =
      ⊎_elim
      (λ lt. (in_costs i lt, lt))
      (λ past.
      let content : Option Schema → Content = λ o. option_map_or (λ s. Price s.cost) o Nothing in
      absurd (differ (ap content (slice_get_past planner.schemas i (rw (schemas_count words planner refl) past)) ∙ sym (ap content (slice_get_past user.schemas i (rw (schemas_count words user joint) past))))))
      (cases_lt i (length words.actions))
  differs_listed (Value f xs) differ =
      ⊎_elim
      (λ there. at_value planner.values (Contains-append_left planner.values user.values) (value_fits words planner refl f xs there.0 there.1))
      (λ there. at_value user.values (Contains-append_right planner.values user.values) (value_fits words user joint f xs there.0 there.1))
      (one_is_there (value_of planner.values f xs) (value_of user.values f xs) differ)
    where
      at_value : (vs : List (ℕ × List ℕ × ℕ)) → ((v : ℕ × List ℕ × ℕ) → Contains vs v → Contains (planner.values ++ user.values) v)
          → ((v : ℕ × List ℕ × ℕ) × Contains vs v × (v.0 ≡ f) × (v.1 ≡ xs)) × (fits_signature (is_object_of words) words.functions f xs ≡ true) → IsListed (Value f xs)
      at_value vs into (v, fit) = (
        in_values (Value f xs) (subst (Contains values) (λ i. Value (v.2 i) (v.3 i)) (map-contains (λ w. Value w.0 w.1) (planner.values ++ user.values) v.0 (into v.0 v.1))),
        fit,
      )

  differs_known : (p : Place) → Differs p ⊎ ¬ Differs p
  differs_known p = ⊎_elim (λ same. inr (λ differ. differ same)) (λ differ. inl differ) (content_known (meaning planner p) (meaning user p))

  -- ---- their order

  listed_trans : (p q r : Place) → IsListedBefore words p q → IsListedBefore words q r → IsListedBefore words p r
  listed_trans p q r (inl a) (inl b) = inl (omega arith)
  listed_trans p q r (inl a) (inr b) = inl (omega (arith, b.0))
  listed_trans p q r (inr a) (inl b) = inl (omega (arith, a.0))
  listed_trans p q r (inr a) (inr b) = inr (a.0 ∙ b.0, texts_trans (printed words p) (printed words q) (printed words r) a.1 b.1)

  module _ (small : (i : ℕ) (action : Signature) → slice_get words.actions i ≡ Some action → length action.params < 2 ^ 64) where
    -- two atoms of one action with one printed form are one
    one_atom : (i j : ℕ) (f g : SchemaAtom) → i ≡ j → FitsAction words planner refl i f → FitsAction words planner refl j g → printed words (Pre i f) ≡ printed words (Pre j g) → f ≡ g
    one_atom i j f g same one two e =
        let there : Some one.0 ≡ Some two.0 = sym one.1 ∙ ap (slice_get words.actions) same ∙ two.1 in
        let action : two.0 ≡ one.0 = cc in
        schema_atom_form-injective words one.0.params (small i one.0 one.1) f g one.2 (subst (λ (a : Signature). IsTrue (is_schema_atom words a.params g)) action two.2) e

    -- two places of one group with one printed form are one
    one_place : (p q : Place) → IsSound p → IsSound q → group words p ≡ group words q → printed words p ≡ printed words q → p ≡ q
    one_place (Init a) (Init b) one two same e = ap Init (atom_form-injective words a b one two e)
    one_place (Goal a) (Goal b) one two same e = ap Goal (atom_form-injective words a b one two e)
    one_place (Knows i) (Knows j) one two same e = let number : i ≡ j = omega arith in ap Knows number
    one_place (Pre i f) (Pre j g) one two same e = let number : i ≡ j = omega arith in let is = one_atom i j f g number one two e in λ k. Pre (number k) (is k)
    one_place (Add i f) (Add j g) one two same e = let number : i ≡ j = omega arith in let is = one_atom i j f g number one two e in λ k. Add (number k) (is k)
    one_place (Del i f) (Del j g) one two same e = let number : i ≡ j = omega arith in let is = one_atom i j f g number one two e in λ k. Del (number k) (is k)
    one_place (Cost i) (Cost j) one two same e = let number : i ≡ j = omega arith in ap Cost number
    one_place (Value f xs) (Value g ys) one two same e = let is = function_form-injective words f g xs ys one two e in λ k. Value (is.0 k) (is.1 k)
    one_place (Knows i) (Value g ys) one two same e = absurd (omega arith)
    one_place (Pre i f) (Value g ys) one two same e = absurd (let lt = slice_get_within words.actions i one.0 one.1 in omega arith)
    one_place (Add i f) (Value g ys) one two same e = absurd (let lt = slice_get_within words.actions i one.0 one.1 in omega arith)
    one_place (Del i f) (Value g ys) one two same e = absurd (let lt = slice_get_within words.actions i one.0 one.1 in omega arith)
    one_place (Cost i) (Value g ys) one two same e = absurd (omega arith)
    one_place (Value f xs) (Knows j) one two same e = absurd (omega arith)
    one_place (Value f xs) (Pre j g) one two same e = absurd (let lt = slice_get_within words.actions j two.0 two.1 in omega arith)
    one_place (Value f xs) (Add j g) one two same e = absurd (let lt = slice_get_within words.actions j two.0 two.1 in omega arith)
    one_place (Value f xs) (Del j g) one two same e = absurd (let lt = slice_get_within words.actions j two.0 two.1 in omega arith)
    one_place (Value f xs) (Cost j) one two same e = absurd (omega arith)
    one_place _ _ one two same e = absurd (omega (arith, same))

    places_total : (p q : Place) → IsSound p → IsSound q → (p ≡ q) ⊎ (IsListedBefore words p q ⊎ IsListedBefore words q p)
    places_total p q one two =
        ⊎_elim
        (λ same. ⊎_elim
        (λ e. inl (one_place p q one two same e))
        (λ apart. inr (⊎_elim (λ less. inl (inr (same, less))) (λ more. inr (inr (sym same, more))) apart))
        (texts_total (printed words p) (printed words q)))
        (λ apart. inr (⊎_elim (λ less. inl (inl less)) (λ more. inr (inl more)) apart))
        (cases_order (group words p) (group words q))

    abbrev total : (p q : Place) → Differs p → Differs q → (p ≡ q) ⊎ (IsListedBefore words p q ⊎ IsListedBefore words q p)
    total p q one two = places_total p q (differs_listed p one).1 (differs_listed q two).1

    some_differences : (places : List Place) × AreDifferences words (meaning planner) (meaning user) places
    some_differences =
        let kept = kept_of (IsListedBefore words) listed_trans Differs total differs_known candidates in (
          kept.0,
          record {
            differ = kept.1.each;
            agree = λ p away. ⊎_elim (λ same. same) (λ differ. absurd (away (kept.1.all p (differs_listed p differ).0 differ))) (content_known (meaning planner p) (meaning user p));
            ordered = pairs_of (IsListedBefore words) listed_trans kept.0 kept.1.ordered;
          },
        )

    -- ---- each with its content in both models

    -- a feature that differs is the other
    other_feature : (b c : Bool) → Feature b ≢ Feature c → Feature c ≡ Feature (not b)
    other_feature true true differ = absurd (differ refl)
    other_feature true false differ = refl
    other_feature false true differ = refl
    other_feature false false differ = absurd (differ refl)

    -- the difference at a place
    record IsAt (p : Place) (d : Difference) : Type 0 where
      here : place_of d ≡ p
      says : Says (meaning planner) (meaning user) d
      fits : FitsWords words d

    cost_fits : (model : Model) (same : model.words ≡ words) (i : ℕ) (schema : Schema) → slice_get model.schemas i ≡ Some schema → IsCost words schema.cost
    cost_fits model same i schema at =
        let within : i < length model.words.actions = rw (← (facts_of_model model).one_each) (slice_get_within model.schemas i schema at) in
        let action = item_at model.words.actions i within in
        subst (λ w. IsCost w schema.cost) same (action.0.params, ((facts_of_model model).schemas_kept i schema action.0 at action.1).cost_fits)

    difference_at : (p : Place) → Differs p → IsSound p → (d : Difference) × IsAt p d
    difference_at (Init a) differ sound = (
      difference.Init a (list_any (same_atom a) planner.init),
      record { here = refl; says = record { planner_has = refl; user_has = other_feature (list_any (same_atom a) planner.init) (list_any (same_atom a) user.init) differ }; fits = sound },
    )
    difference_at (Goal a) differ sound = (
      difference.Goal a (list_any (same_atom a) planner.goal),
      record { here = refl; says = record { planner_has = refl; user_has = other_feature (list_any (same_atom a) planner.goal) (list_any (same_atom a) user.goal) differ }; fits = sound },
    )
    difference_at (Knows i) differ sound =
        let knows : Model → Bool = λ model. nat_lt i (length model.schemas) && not (list_any (λ unknown. unknown == i) model.unknown) in (
          difference.Knows i (knows planner),
          record { here = refl; says = record { planner_has = refl; user_has = other_feature (knows planner) (knows user) differ }; fits = sound },
        )
    difference_at (Pre i f) differ sound = (
      difference.Pre i f (schema_has (λ s. s.pre) planner i f),
      record {
        here = refl;
        says = record { planner_has = refl; user_has = other_feature (schema_has (λ s. s.pre) planner i f) (schema_has (λ s. s.pre) user i f) differ };
        fits = (slice_get_within words.actions i sound.0 sound.1, (sound.0.params, sound.2));
      },
    )
    difference_at (Add i f) differ sound = (
      difference.Add i f (schema_has (λ s. s.add) planner i f),
      record {
        here = refl;
        says = record { planner_has = refl; user_has = other_feature (schema_has (λ s. s.add) planner i f) (schema_has (λ s. s.add) user i f) differ };
        fits = (slice_get_within words.actions i sound.0 sound.1, (sound.0.params, sound.2));
      },
    )
    difference_at (Del i f) differ sound = (
      difference.Del i f (schema_has (λ s. s.del) planner i f),
      record {
        here = refl;
        says = record { planner_has = refl; user_has = other_feature (schema_has (λ s. s.del) planner i f) (schema_has (λ s. s.del) user i f) differ };
        fits = (slice_get_within words.actions i sound.0 sound.1, (sound.0.params, sound.2));
      },
    )
    difference_at (Cost i) differ sound =
        let one = item_at planner.schemas i (rw (schemas_count words planner refl) sound) in
        let two = item_at user.schemas i (rw (schemas_count words user joint) sound) in
        let content : Option Schema → Content = λ o. option_map_or (λ s. Price s.cost) o Nothing in (
          difference.Cost i one.0.cost two.0.cost,
          record {
            here = refl;
            says = record { planner_has = ap content one.1; user_has = ap content two.1 };
            fits = (sound, cost_fits planner refl i one.0 one.1, cost_fits user joint i two.0 two.1);
          },
        )
    difference_at (Value f xs) differ sound = (
      difference.Value f xs (value_of planner.values f xs) (value_of user.values f xs),
      record { here = refl; says = record { planner_has = refl; user_has = refl }; fits = sound },
    )

    record AreAt (places : List Place) (ds : List Difference) : Type 0 where
      here : places_of ds ≡ places
      says : All (Says (meaning planner) (meaning user)) ds
      fit : All (FitsWords words) ds

    differences_at : (places : List Place) → ((p : Place) → Contains places p → Differs p) → (ds : List Difference) × AreAt places ds
    differences_at [] each = ([], record { here = refl; says = All-nil (Says (meaning planner) (meaning user)); fit = All-nil (FitsWords words) })
    differences_at (p ∷ places) each =
        let differ = each p (contains_here p places) in
        more (difference_at p differ (differs_listed p differ).1) (differences_at places (λ q at. each q (contains_later p places q at)))
      where
        more : ((d : Difference) × IsAt p d) → ((ds : List Difference) × AreAt places ds) → (ds : List Difference) × AreAt (p ∷ places) ds
        more one rest = (
          one.0 ∷ rest.0,
          record {
            here = λ k. one.1.here k ∷ rest.1.here k;
            says = All-cons (Says (meaning planner) (meaning user)) one.0 rest.0 one.1.says rest.1.says;
            fit = All-cons (FitsWords words) one.0 rest.0 one.1.fits rest.1.fit;
          },
        )

    pub all_differences : (ds : List Difference) × AreDifferencesOf planner user ds
    all_differences =
        let some = some_differences in
        let made = differences_at some.0 some.1.differ in
        (made.0, record { all = subst (AreDifferences words (meaning planner) (meaning user)) (sym made.1.here) some.1; each = made.1.says; fit = made.1.fit })
