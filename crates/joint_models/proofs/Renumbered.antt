-- What a model lists, in the numbers of a vocabulary that has all its words: it fits there, and what differs stays different.
use Rattle.std.proofs.Common.{◌≡◌, ℕ, ◌<◌, true, List, length, get_or, map, refl, sym, ap, ◌∙◌}
use Rattle.std.specs.Prelude.{All, IsTrue, slice_index}
use Rattle.std.proofs.lemmas.List.{length-map}
use Rattle.std.proofs.lemmas.List.Elements.{All-weaker}
use Rattle.model_kit.specs.declared.vocabulary.Vocabulary.{Vocabulary}
use Rattle.model_kit.specs.declared.vocabulary.Signature.{Signature}
use Rattle.model_kit.specs.declared.atom.GroundAtom.{GroundAtom}
use Rattle.model_kit.specs.declared.atom.SchemaAtom.{SchemaAtom}
use Rattle.model_kit.specs.declared.atom.Term.{Term}
use Rattle.model_kit.specs.declared.atom.Term.TheVariants.{Param, Object}
use Rattle.model_kit.specs.declared.model.Model.{Model}
use Rattle.model_kit.specs.declared.model.Schema.{Schema}
use Rattle.model_kit.specs.declared.model.CostExpr.{CostExpr}
use Rattle.model_kit.specs.declared.model.CostExpr.TheVariants.{Number, Call}
use Rattle.model_kit.specs.Vocabulary.{is_object_of, is_term_of, fits_signature, is_ground_atom, is_schema_atom}
use Rattle.model_kit.specs.Features.{is_cost, is_value}
use Rattle.model_kit.specs.Pairs.{names, number_of, type_in, object_in, atom_in, term_in, schema_atom_in, cost_in, schema_in, value_in}
use Rattle.model_kit.proofs.Fits.{signature_listed, object_listed, each_arg_fits}
use Rattle.model_kit.proofs.Distinct.{ListFacts}
use Rattle.model_kit.proofs.ModelFacts.{SchemaFacts}
use Rattle.joint_models.specs.declared.group.Group.{Group}
use Rattle.joint_models.specs.declared.group.Group.TheVariants.{Objects, Predicates, Functions}
use Rattle.joint_models.specs.declared.lists.Lists.{Lists}
use Rattle.joint_models.specs.declared.numbers.Numbers.{Numbers}
use Rattle.joint_models.specs.Listed.{typed_entry}
use Rattle.joint_models.specs.Disagreements.{entries_in}
use Rattle.joint_models.specs.Renaming.{number_at, numbers_between, atom_by, term_by, schema_atom_by, cost_by, schema_by, value_by, HasAllOf, IsPartOf}
use Rattle.joint_models.proofs.Mapped.{list_kept, lists_apart, number_between}
use Rattle.joint_models.proofs.Keeping.{name_at, in_number, object_in_is, object_kept, term_kept, fits_kept, number_apart}
use Rattle.mre_base.proofs.Listed.{item_at, map_same}

module _ (from words : Vocabulary) (all : HasAllOf words from) where
  -- ---- objects

  object_apart : (x y : ℕ) → x < length from.objects → y < length from.objects → object_in from words x ≡ object_in from words y → x ≡ y
  object_apart x y x_listed y_listed same =
      number_apart from words all Objects x y (rw (length-map from.objects typed_entry) x_listed) (rw (length-map from.objects typed_entry) y_listed)
      (sym (object_in_is from words all x) ∙ same ∙ object_in_is from words all y)

  objects_listed : (signatures : List Signature) (n : ℕ) (args : List ℕ) → fits_signature (is_object_of from) signatures n args ≡ true → All (λ o. o < length from.objects) args
  objects_listed signatures n args fit k d lt = let at = each_arg_fits (is_object_of from) signatures n args fit k d lt in object_listed from (get_or args k d) at.0 at.1

  -- ---- ground atoms

  atom_kept : (a : GroundAtom) → is_ground_atom from a ≡ true → is_ground_atom words (atom_in from words a) ≡ true
  atom_kept a fit = fits_kept from words all (is_object_of from) (is_object_of words) (object_in from words) (object_kept from words all) Predicates a.predicate a.objects fit

  atoms_apart : (a b : GroundAtom) → is_ground_atom from a ≡ true → is_ground_atom from b ≡ true → atom_in from words a ≡ atom_in from words b → a ≡ b
  atoms_apart a b a_fits b_fits same =
      let predicate : a.predicate ≡ b.predicate =
      number_apart from words all Predicates a.predicate b.predicate (signature_listed (is_object_of from) from.predicates a.predicate a.objects a_fits) (signature_listed (is_object_of from) from.predicates b.predicate b.objects b_fits) (ap (λ c. c.predicate) same) in
      let objects : a.objects ≡ b.objects =
      lists_apart (λ o. o < length from.objects) (object_in from words) object_apart a.objects b.objects (objects_listed from.predicates a.predicate a.objects a_fits) (objects_listed from.predicates b.predicate b.objects b_fits) (ap (λ c. c.objects) same) in
      λ i. record { predicate = predicate i; objects = objects i }

  pub atoms_kept : (atoms : List GroundAtom) → ListFacts (is_ground_atom from) (λ a b. a ≡ b) atoms → ListFacts (is_ground_atom words) (λ a b. a ≡ b) (map (atom_in from words) atoms)
  atoms_kept atoms facts = list_kept (is_ground_atom from) (λ a b. a ≡ b) (is_ground_atom words) (λ a b. a ≡ b) (atom_in from words) atom_kept atoms_apart atoms facts

  -- ---- function values

  value_kept : (v : ℕ × List ℕ × ℕ) → is_value from v ≡ true → is_value words (value_in from words v) ≡ true
  value_kept v fit = fits_kept from words all (is_object_of from) (is_object_of words) (object_in from words) (object_kept from words all) Functions v.0 v.1 fit

  keys_apart : (v w : ℕ × List ℕ × ℕ) → is_value from v ≡ true → is_value from w ≡ true
      → ((value_in from words v).0 ≡ (value_in from words w).0) × ((value_in from words v).1 ≡ (value_in from words w).1) → (v.0 ≡ w.0) × (v.1 ≡ w.1)
  keys_apart v w v_fits w_fits same = (
    number_apart from words all Functions v.0 w.0 (signature_listed (is_object_of from) from.functions v.0 v.1 v_fits) (signature_listed (is_object_of from) from.functions w.0 w.1 w_fits) same.0,
    lists_apart (λ o. o < length from.objects) (object_in from words) object_apart v.1 w.1 (objects_listed from.functions v.0 v.1 v_fits) (objects_listed from.functions w.0 w.1 w_fits) same.1,
  )

  pub values_kept : (values : List (ℕ × List ℕ × ℕ)) → ListFacts (is_value from) (λ v w. (v.0 ≡ w.0) × (v.1 ≡ w.1)) values → ListFacts (is_value words) (λ v w. (v.0 ≡ w.0) × (v.1 ≡ w.1)) (map (value_in from words) values)
  values_kept values facts =
      list_kept (is_value from) (λ v w. (v.0 ≡ w.0) × (v.1 ≡ w.1)) (is_value words) (λ v w. (v.0 ≡ w.0) × (v.1 ≡ w.1)) (value_in from words) value_kept keys_apart values facts

  -- ---- schemas

  module _ (params : List ℕ) (listed : All (λ t. t < length from.types) params) where
    -- a term of the schema is of some type
    abbrev pub IsFitting : Term → Type 0
    IsFitting term = (type : ℕ) × (is_term_of from params term type ≡ true)

    pub terms_fit : (signatures : List Signature) (n : ℕ) (args : List Term) → fits_signature (is_term_of from params) signatures n args ≡ true → All IsFitting args
    terms_fit signatures n args fit = each_arg_fits (is_term_of from params) signatures n args fit

    term_apart : (s t : Term) → IsFitting s → IsFitting t → term_in from words s ≡ term_in from words t → s ≡ t
    term_apart (Param i) (Param j) s_fits t_fits same = same
    term_apart (Param i) (Object p) s_fits t_fits same = absurd (cc)
    term_apart (Object o) (Param j) s_fits t_fits same = absurd (cc)
    term_apart (Object o) (Object p) s_fits t_fits same =
        let numbers : object_in from words o ≡ object_in from words p = cc in
        ap Object (object_apart o p (object_listed from o s_fits.0 s_fits.1) (object_listed from p t_fits.0 t_fits.1) numbers)

    schema_atom_kept : (a : SchemaAtom) → is_schema_atom from params a ≡ true → is_schema_atom words (map (type_in from words) params) (schema_atom_in from words a) ≡ true
    schema_atom_kept a fit =
        fits_kept from words all (is_term_of from params) (is_term_of words (map (type_in from words) params)) (term_in from words) (term_kept from words all params listed) Predicates a.predicate a.args fit

    schema_atoms_apart : (a b : SchemaAtom) → is_schema_atom from params a ≡ true → is_schema_atom from params b ≡ true → schema_atom_in from words a ≡ schema_atom_in from words b → a ≡ b
    schema_atoms_apart a b a_fits b_fits same =
        let predicate : a.predicate ≡ b.predicate =
        number_apart from words all Predicates a.predicate b.predicate (signature_listed (is_term_of from params) from.predicates a.predicate a.args a_fits) (signature_listed (is_term_of from params) from.predicates b.predicate b.args b_fits) (ap (λ c. c.predicate) same) in
        let args : a.args ≡ b.args =
        lists_apart IsFitting (term_in from words) term_apart a.args b.args (terms_fit from.predicates a.predicate a.args a_fits) (terms_fit from.predicates b.predicate b.args b_fits) (ap (λ c. c.args) same) in
        λ i. record { predicate = predicate i; args = args i }

    schema_atoms_kept : (atoms : List SchemaAtom) → ListFacts (is_schema_atom from params) (λ a b. a ≡ b) atoms → ListFacts (is_schema_atom words (map (type_in from words) params)) (λ a b. a ≡ b) (map (schema_atom_in from words) atoms)
    schema_atoms_kept atoms facts =
        list_kept (is_schema_atom from params) (λ a b. a ≡ b) (is_schema_atom words (map (type_in from words) params)) (λ a b. a ≡ b) (schema_atom_in from words) schema_atom_kept schema_atoms_apart atoms facts

    cost_kept : (cost : CostExpr) → is_cost from params cost ≡ true → is_cost words (map (type_in from words) params) (cost_in from words cost) ≡ true
    cost_kept (Number n) fit = refl
    cost_kept (Call function args) fit =
        fits_kept from words all (is_term_of from params) (is_term_of words (map (type_in from words) params)) (term_in from words) (term_kept from words all params listed) Functions function args fit

    pub schema_kept : (schema : Schema) → SchemaFacts from params schema → SchemaFacts words (map (type_in from words) params) (schema_in from words schema)
    schema_kept schema facts = record {
      pre_kept = schema_atoms_kept schema.pre facts.pre_kept;
      add_kept = schema_atoms_kept schema.add facts.add_kept;
      del_kept = schema_atoms_kept schema.del facts.del_kept;
      cost_fits = cost_kept schema.cost facts.cost_fits;
    }

-- ---- by the lists of the new numbers

module _ (words : Vocabulary) (model : Model) (lists : Lists) (numbers : Numbers) (part : IsPartOf words model lists numbers) where
  by_number : (group : Group) (list : List ℕ) → list ≡ numbers_between (entries_in group model.words) (entries_in group words) → (n : ℕ) → n < length (entries_in group model.words) → number_at list n ≡ in_number model.words words part.whole group n
  by_number group list is n lt =
      let s = item_at (entries_in group model.words) n lt in
      ap (λ l. slice_index l n) is ∙ number_between (entries_in group model.words) (entries_in group words) n s.0 s.1
      ∙ sym (ap (number_of (names (entries_in group words))) (name_at (entries_in group model.words) n s.0 s.1))

  object_is : (o : ℕ) → o < length model.words.objects → number_at numbers.objects o ≡ object_in model.words words o
  object_is o lt =
      by_number Objects numbers.objects part.objects o (rw (length-map model.words.objects typed_entry) lt) ∙ sym (object_in_is model.words words part.whole o)

  objects_are : (xs : List ℕ) → All (λ o. o < length model.words.objects) xs → map (number_at numbers.objects) xs ≡ map (object_in model.words words) xs
  objects_are xs listed = map_same (number_at numbers.objects) (object_in model.words words) xs (All-weaker (λ o. o < length model.words.objects) (λ o. number_at numbers.objects o ≡ object_in model.words words o) object_is xs listed)

  atom_is : (a : GroundAtom) → IsTrue (is_ground_atom model.words a) → atom_by numbers a ≡ atom_in model.words words a
  atom_is a fit =
      let predicate = by_number Predicates numbers.predicates part.predicates a.predicate (signature_listed (is_object_of model.words) model.words.predicates a.predicate a.objects fit) in
      let objects = objects_are a.objects (objects_listed model.words words part.whole model.words.predicates a.predicate a.objects fit) in
      λ i. record { predicate = predicate i; objects = objects i }

  pub atoms_are : (atoms : List GroundAtom) → All (λ a. IsTrue (is_ground_atom model.words a)) atoms → map (atom_by numbers) atoms ≡ map (atom_in model.words words) atoms
  atoms_are atoms fit = map_same (atom_by numbers) (atom_in model.words words) atoms (All-weaker (λ a. IsTrue (is_ground_atom model.words a)) (λ a. atom_by numbers a ≡ atom_in model.words words a) atom_is atoms fit)

  value_is : (v : ℕ × List ℕ × ℕ) → IsTrue (is_value model.words v) → value_by numbers v ≡ value_in model.words words v
  value_is v fit =
      let function = by_number Functions numbers.functions part.functions v.0 (signature_listed (is_object_of model.words) model.words.functions v.0 v.1 fit) in
      let objects = objects_are v.1 (objects_listed model.words words part.whole model.words.functions v.0 v.1 fit) in
      λ i. (function i, objects i, v.2)

  pub values_are : (values : List (ℕ × List ℕ × ℕ)) → All (λ v. IsTrue (is_value model.words v)) values → map (value_by numbers) values ≡ map (value_in model.words words) values
  values_are values fit = map_same (value_by numbers) (value_in model.words words) values (All-weaker (λ v. IsTrue (is_value model.words v)) (λ v. value_by numbers v ≡ value_in model.words words v) value_is values fit)

  module _ (params : List ℕ) (listed : All (λ t. t < length model.words.types) params) where
    term_is : (term : Term) → IsFitting model.words words part.whole params listed term → term_by numbers term ≡ term_in model.words words term
    term_is (Param i) fits = refl
    term_is (Object o) fits = ap Object (object_is o (object_listed model.words o fits.0 fits.1))

    terms_are : (args : List Term) → All (IsFitting model.words words part.whole params listed) args → map (term_by numbers) args ≡ map (term_in model.words words) args
    terms_are args fit = map_same (term_by numbers) (term_in model.words words) args (All-weaker (IsFitting model.words words part.whole params listed) (λ t. term_by numbers t ≡ term_in model.words words t) term_is args fit)

    schema_atom_is : (a : SchemaAtom) → IsTrue (is_schema_atom model.words params a) → schema_atom_by numbers a ≡ schema_atom_in model.words words a
    schema_atom_is a fit =
        let predicate = by_number Predicates numbers.predicates part.predicates a.predicate (signature_listed (is_term_of model.words params) model.words.predicates a.predicate a.args fit) in
        let args = terms_are a.args (terms_fit model.words words part.whole params listed model.words.predicates a.predicate a.args fit) in
        λ i. record { predicate = predicate i; args = args i }

    schema_atoms_are : (atoms : List SchemaAtom) → All (λ a. IsTrue (is_schema_atom model.words params a)) atoms → map (schema_atom_by numbers) atoms ≡ map (schema_atom_in model.words words) atoms
    schema_atoms_are atoms fit =
        map_same (schema_atom_by numbers) (schema_atom_in model.words words) atoms (All-weaker (λ a. IsTrue (is_schema_atom model.words params a)) (λ a. schema_atom_by numbers a ≡ schema_atom_in model.words words a) schema_atom_is atoms fit)

    cost_is : (cost : CostExpr) → is_cost model.words params cost ≡ true → cost_by numbers cost ≡ cost_in model.words words cost
    cost_is (Number n) fit = refl
    cost_is (Call function args) fit =
        let named = by_number Functions numbers.functions part.functions function (signature_listed (is_term_of model.words params) model.words.functions function args fit) in
        let terms = terms_are args (terms_fit model.words words part.whole params listed model.words.functions function args fit) in
        λ i. Call (named i) (terms i)

    pub schema_is : (schema : Schema) → SchemaFacts model.words params schema → schema_by numbers schema ≡ schema_in model.words words schema
    schema_is schema facts =
        let pre = schema_atoms_are schema.pre facts.pre_kept.fit in
        let add = schema_atoms_are schema.add facts.add_kept.fit in
        let del = schema_atoms_are schema.del facts.del_kept.fit in
        let cost = cost_is schema.cost facts.cost_fits in
        λ i. record { pre = pre i; add = add i; del = del i; cost = cost i }
