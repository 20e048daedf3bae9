-- The schemas of a domain's bodies fit the vocabulary of the domain and a problem.
use Rattle.std.proofs.Common.{◌≡◌, ℕ, ◌&&◌, suc, zero, Bool, true, false, Some, None, Option, List, [], ◌∷◌, ◌++◌, map, refl, sym, ap, ◌∙◌}
use Rattle.std.specs.Prelude.{not, filter, slice_get}
use Rattle.std.specs.List.{list_all, list_any}
use Rattle.std.specs.Str.{bytes_eq}
use Rattle.std.specs.Cmp.{first_so, second_so}
use Rattle.std.specs.Cmp.Lexicographic.{pointwise}
use Rattle.std.proofs.lemmas.Bool.{true≢false, and_from}
use Rattle.mre_base.proofs.Listed.{slice_get-append}
use Rattle.model_kit.specs.declared.atom.SchemaAtom.{SchemaAtom}
use Rattle.model_kit.specs.declared.atom.Term.{Term}
use Rattle.model_kit.specs.declared.atom.Term.TheVariants.{Param, Object}
use Rattle.model_kit.specs.declared.model.CostExpr.{CostExpr}
use Rattle.model_kit.specs.declared.model.CostExpr.TheVariants.{Number, Call}
use Rattle.model_kit.specs.declared.model.Schema.{Schema}
use Rattle.model_kit.specs.declared.vocabulary.Signature.{Signature}
use Rattle.model_kit.specs.declared.vocabulary.Vocabulary.{Vocabulary}
use Rattle.model_kit.specs.Features.{are_schema_atoms, is_cost, is_schema}
use Rattle.model_kit.specs.Names.{are_distinct}
use Rattle.model_kit.specs.Same.{same_schema_atom}
use Rattle.model_kit.specs.Types.{is_of_type}
use Rattle.model_kit.specs.Vocabulary.{is_object_of, is_term_of, fits_signature, is_schema_atom}
use Rattle.model_kit.proofs.TypeLemmas.{entry_passes, entry_from}
use Rattle.pddl_models.specs.declared.body.Body.{Body}
use Rattle.pddl_names.specs.declared.role.Word.{Word}
use Rattle.pddl_models.specs.Bodies.{is_increase, is_body, are_bodies}
use Rattle.pddl_names.specs.Numbers.{entry_name}
use Rattle.pddl_vocabulary.specs.Values.{names_of, objects_said, SaysMore}
use Rattle.pddl_models.specs.Says.{cost_said, schema_said}

module _ {X : Type 0} (p q : X → Bool) (weaker : (x : X) → p x ≡ true → q x ≡ true) where
  all_weaker : (xs : List X) → list_all p xs ≡ true → list_all q xs ≡ true
  all_weaker [] all = refl
  all_weaker (x ∷ xs) all = and_from (q x) (list_all q xs) (weaker x (first_so (p x) (list_all p xs) all)) (all_weaker xs (second_so (p x) (list_all p xs) all))

module _ {X Y : Type 0} (p q : X → Y → Bool) (weaker : (x : X) (y : Y) → p x y ≡ true → q x y ≡ true) where
  point_weaker : (xs : List X) (ys : List Y) → pointwise p xs ys ≡ true → pointwise q xs ys ≡ true
  point_weaker [] [] fit = refl
  point_weaker [] (y ∷ ys) fit = absurd (true≢false (sym fit))
  point_weaker (x ∷ xs) [] fit = absurd (true≢false (sym fit))
  point_weaker (x ∷ xs) (y ∷ ys) fit = and_from (q x y) (pointwise q xs ys) (weaker x y (first_so (p x y) (pointwise p xs ys) fit)) (point_weaker xs ys (second_so (p x y) (pointwise p xs ys) fit))

module _ (domain : Vocabulary) (said : List Word) (words : Vocabulary) (more : SaysMore domain said words) where
  abbrev further : List (List ℕ × ℕ)
  further = filter (λ e. not (list_any (λ f. bytes_eq (entry_name f) (entry_name e)) domain.objects)) (objects_said (names_of domain.types) said)

  object_more : (object type : ℕ) → is_object_of domain object type ≡ true → is_object_of words object type ≡ true
  object_more object type is =
      let entry = entry_passes (λ e. is_of_type domain.types e.1 type) domain.objects object is in
      entry_from (λ e. is_of_type words.types e.1 type) words.objects object entry.0
      (ap (λ es. slice_get es object) more.objects ∙ slice_get-append domain.objects further object entry.0 entry.1)
      (ap (λ types. is_of_type types entry.0.1 type) more.types ∙ entry.2)

  module _ (params : List ℕ) where
    term_more : (term : Term) (type : ℕ) → is_term_of domain params term type ≡ true → is_term_of words params term type ≡ true
    term_more (Object object) type is = object_more object type is
    term_more (Param i) type is =
        let declared = entry_passes (λ d. is_of_type domain.types d type) params i is in
        entry_from (λ d. is_of_type words.types d type) params i declared.0 declared.1 (ap (λ types. is_of_type types declared.0 type) more.types ∙ declared.2)

    signature_more : (old new : List Signature) → new ≡ old → (n : ℕ) (args : List Term) → fits_signature (is_term_of domain params) old n args ≡ true → fits_signature (is_term_of words params) new n args ≡ true
    signature_more old new is n args fit =
        let at = entry_passes (λ s. pointwise (is_term_of domain params) args s.params) old n fit in
        entry_from (λ s. pointwise (is_term_of words params) args s.params) new n at.0 (ap (λ ss. slice_get ss n) is ∙ at.1)
        (point_weaker (is_term_of domain params) (is_term_of words params) term_more args at.0.params at.2)

    atoms_more : (atoms : List SchemaAtom) → are_schema_atoms domain params atoms ≡ true → are_schema_atoms words params atoms ≡ true
    atoms_more atoms fit =
        and_from (list_all (is_schema_atom words params) atoms) (are_distinct same_schema_atom atoms)
        (all_weaker (is_schema_atom domain params) (is_schema_atom words params) (λ atom is. signature_more domain.predicates words.predicates more.predicates atom.predicate atom.args is) atoms
        (first_so (list_all (is_schema_atom domain params) atoms) (are_distinct same_schema_atom atoms) fit))
        (second_so (list_all (is_schema_atom domain params) atoms) (are_distinct same_schema_atom atoms) fit)

    cost_more : (metric : Bool) (increase : Option CostExpr) → is_increase domain params increase ≡ true → is_cost words params (cost_said metric increase) ≡ true
    cost_more false increase fit = refl
    cost_more true None fit = refl
    cost_more true (Some (Number n)) fit = refl
    cost_more true (Some (Call function args)) fit = signature_more domain.functions words.functions more.functions function args fit

  schema_more : (metric : Bool) (body : Body) (action : Signature) → is_body domain body action ≡ true → is_schema words (schema_said metric body) action ≡ true
  schema_more metric body action fit =
      let a : Bool = are_schema_atoms domain action.params body.pre in
      let b : Bool = are_schema_atoms domain action.params body.add in
      let c : Bool = are_schema_atoms domain action.params body.del in
      let d : Bool = is_increase domain action.params body.increase in
      let front = first_so (a && b && c) d fit in
      let first = first_so (a && b) c front in
      let pre = are_schema_atoms words action.params body.pre in
      let add = are_schema_atoms words action.params body.add in
      let del = are_schema_atoms words action.params body.del in
      let cost = is_cost words action.params (cost_said metric body.increase) in
      and_from (pre && add && del) cost
      (and_from (pre && add) del (and_from pre add (atoms_more action.params body.pre (first_so a b first)) (atoms_more action.params body.add (second_so a b first))) (atoms_more action.params body.del (second_so (a && b) c front)))
      (cost_more action.params metric body.increase (second_so (a && b && c) d fit))

  schemas_by : (metric : Bool) (bodies : List Body) (actions : List Signature) → pointwise (is_body domain) bodies actions ≡ true → pointwise (is_schema words) (map (schema_said metric) bodies) actions ≡ true
  schemas_by metric [] [] fit = refl
  schemas_by metric [] (a ∷ actions) fit = absurd (true≢false (sym fit))
  schemas_by metric (b ∷ bodies) [] fit = absurd (true≢false (sym fit))
  schemas_by metric (b ∷ bodies) (a ∷ actions) fit =
      and_from (is_schema words (schema_said metric b) a) (pointwise (is_schema words) (map (schema_said metric) bodies) actions)
      (schema_more metric b a (first_so (is_body domain b a) (pointwise (is_body domain) bodies actions) fit))
      (schemas_by metric bodies actions (second_so (is_body domain b a) (pointwise (is_body domain) bodies actions) fit))

  -- the schemas of a domain's bodies are those of the actions
  pub said_schemas : (metric : Bool) (bodies : List Body) (schemas : List Schema) → are_bodies domain bodies ≡ true → schemas ≡ map (schema_said metric) bodies → pointwise (is_schema words) schemas words.actions ≡ true
  said_schemas metric bodies schemas fit is = (λ i. pointwise (is_schema words) (is i) (more.actions i)) ∙ schemas_by metric bodies domain.actions fit
