-- What is kept in the numbers of a vocabulary that has all that another has.
use Rattle.std.proofs.Common.{◌≡◌, ℕ, ◌<◌, zero, suc, Bool, true, List, [], ◌∷◌, length, get_or, map, Some, refl, sym, ap, subst, ◌∙◌, arith}
use Rattle.std.specs.Prelude.{All, IsTrue, slice_get}
use Rattle.std.specs.Option.{option_map, option_map_or}
use Rattle.std.specs.Cmp.Lexicographic.{pointwise}
use Rattle.std.proofs.lemmas.List.{map-id}
use Rattle.std.proofs.lemmas.Option.{slice_get-map, slice_get_within}
use Rattle.model_kit.specs.declared.vocabulary.Vocabulary.{Vocabulary}
use Rattle.model_kit.specs.declared.vocabulary.Signature.{Signature}
use Rattle.model_kit.specs.declared.atom.Term.{Term}
use Rattle.model_kit.specs.declared.atom.Term.TheVariants.{Param, Object}
use Rattle.model_kit.specs.Types.{parent, ancestor, is_of_type}
use Rattle.model_kit.specs.Vocabulary.{is_object_of, is_term_of, fits_signature}
use Rattle.model_kit.specs.Words.{is_signature}
use Rattle.model_kit.specs.Printed.{name_of}
use Rattle.model_kit.specs.Pairs.{type_name, names, number_of, type_in, object_in, term_in}
use Rattle.mre_base.proofs.Loops.{All_item}
use Rattle.model_kit.proofs.WordFacts.{TypeFacts, type_listed, signature_types, facts_of_words}
use Rattle.model_kit.proofs.TypeLemmas.{steps_up, from_steps_up, is_of_type-trans, entry_passes, entry_from}
use Rattle.joint_models.specs.declared.group.Group.{Group}
use Rattle.joint_models.specs.declared.group.Group.TheVariants.{Types, Objects, Actions, Predicates, Functions}
use Rattle.joint_models.specs.Listed.{typed_entry, entry_named}
use Rattle.joint_models.specs.Disagreements.{entries_in}
use Rattle.joint_models.specs.Renaming.{HasAllOf}
use Rattle.joint_models.proofs.Entries.{number_is, entry_is, entry_has_name}
use Rattle.joint_models.proofs.Alikeness.{has_from, has_entry, entries_apart}
use Rattle.joint_models.proofs.Mapped.{map_map, pointwise_kept, at_mapped, typed_names_are}
use Rattle.mre_base.proofs.Listed.{item_at, map_same}

-- the name of an entry of types or objects
pub typed_name : (es : List (List ℕ × ℕ)) (n : ℕ) → name_of (map typed_entry es) n ≡ option_map_or (λ e. e.0) (slice_get es n) []
typed_name [] n = refl
typed_name (e ∷ es) zero = refl
typed_name (e ∷ es) (suc n) = typed_name es n

pub typed_at : (es : List (List ℕ × ℕ)) (n : ℕ) (e : List ℕ × ℕ) → slice_get es n ≡ Some e → slice_get (map typed_entry es) n ≡ Some (typed_entry e)
typed_at es n e at = slice_get-map typed_entry es n ∙ ap (option_map typed_entry) at

pub name_at : (ss : List Signature) (n : ℕ) (s : Signature) → slice_get ss n ≡ Some s → name_of ss n ≡ s.name
name_at ss n s at = ap (λ o. option_map_or (λ t. t.name) o []) at

one_listed : (n bound : ℕ) → n < bound → All (λ t. t < bound) (n ∷ [])
one_listed n bound lt zero d within = lt
one_listed n bound lt (suc k) d within = absurd (omega arith)

-- the types of an entry are listed
pub types_listed : (group : Group) (words : Vocabulary) (n : ℕ) (s : Signature) → slice_get (entries_in group words) n ≡ Some s → All (λ t. t < length words.types) s.params
types_listed Types words n s at =
    let e = at_mapped typed_entry words.types n s at in
    subst (λ t. All (λ t. t < length words.types) t.params) e.2
    (one_listed e.0.1 (length words.types) (All_item words.types n e.0 e.1 (λ f. f.1 < length words.types) (type_listed words.types words.types (facts_of_words words).types_kept.kept)))
types_listed Objects words n s at =
    let e = at_mapped typed_entry words.objects n s at in
    subst (λ t. All (λ t. t < length words.types) t.params) e.2
    (one_listed e.0.1 (length words.types) (All_item words.objects n e.0 e.1 (λ f. f.1 < length words.types) (type_listed words.types words.objects (facts_of_words words).objects_kept)))
types_listed Actions words n s at = signature_types words.types s (All_item words.actions n s at (λ t. IsTrue (is_signature words.types t)) (facts_of_words words).actions_kept.fit)
types_listed Predicates words n s at = signature_types words.types s (All_item words.predicates n s at (λ t. IsTrue (is_signature words.types t)) (facts_of_words words).predicates_kept.fit)
types_listed Functions words n s at = signature_types words.types s (All_item words.functions n s at (λ t. IsTrue (is_signature words.types t)) (facts_of_words words).functions_kept.fit)

-- a listed type is the one with its name
pub type_number : (words : Vocabulary) (n : ℕ) → n < length words.types → number_of (map (λ e. e.0) words.types) (type_name words n) ≡ n
type_number words n lt =
    let e = item_at words.types n lt in
    (λ i. number_of (sym (typed_names_are words.types) i) (ap (λ o. option_map_or (λ entry. entry.0) o []) e.1 i))
    ∙ number_is (entries_in Types words) (entries_apart Types words) n (typed_entry e.0) (typed_at words.types n e.0 e.1)

-- any number of parents up
below_any : (types : List (List ℕ × ℕ)) → TypeFacts types → (type : ℕ) → type < length types → (n above : ℕ) → ancestor types n type ≡ above → is_of_type types type above ≡ true
below_any types facts type listed zero above is = from_steps_up types type above zero (omega arith) is
below_any types facts type listed (suc n) above is =
    is_of_type-trans types facts type (ancestor types n type) above listed (below_any types facts type listed n (ancestor types n type) refl)
    (from_steps_up types (ancestor types n type) above (suc zero) (omega arith) is)

-- an entry with its types in other numbers
abbrev pub renamed : Vocabulary → Vocabulary → Signature → Signature
renamed from words s = record { name = s.name; params = map (type_in from words) s.params }

module _ (from words : Vocabulary) (all : HasAllOf words from) where
  -- the number of an entry's name
  abbrev pub in_number : Group → ℕ → ℕ
  in_number group n = number_of (names (entries_in group words)) (name_of (entries_in group from) n)

  pub type_in_is : (n : ℕ) → type_in from words n ≡ in_number Types n
  type_in_is n = λ i. number_of (sym (typed_names_are words.types) i) (sym (typed_name from.types n) i)

  pub object_in_is : (n : ℕ) → object_in from words n ≡ in_number Objects n
  object_in_is n = λ i. number_of (sym (typed_names_are words.objects) i) (sym (typed_name from.objects n) i)

  -- each entry is there, with its types
  pub entry_kept : (group : Group) (n : ℕ) (s : Signature) → slice_get (entries_in group from) n ≡ Some s → entry_named (entries_in group words) s.name ≡ Some (renamed from words s)
  entry_kept group n s at =
      let had = has_from from (entries_in group from) s.name s (entry_is (entries_in group from) (entries_apart group from) n s at) in
      let kept = has_entry words (entries_in group words) s.name (map (type_name from) s.params) (all group s.name (map (type_name from) s.params) had) in
      let t = kept.0 in
      let M = number_of (map (λ e. e.0) words.types) in
      let named : t.name ≡ s.name = entry_has_name (entries_in group words) s.name t kept.1 in
      let listed = types_listed group words (number_of (names (entries_in group words)) s.name) t kept.1 in
      let own : map (λ p. M (type_name words p)) t.params ≡ t.params =
      map_same (λ p. M (type_name words p)) (λ p. p) t.params (λ k d lt. type_number words (get_or t.params k d) (listed k d lt)) ∙ map-id t.params in
      let params : t.params ≡ map (type_in from words) s.params =
      sym own ∙ sym (map_map M (type_name words) t.params) ∙ ap (map M) kept.2 ∙ map_map M (type_name from) s.params in
      kept.1 ∙ (λ i. let made : Signature = record { name = named i; params = params i } in Some made)

  pub entry_at : (group : Group) (n : ℕ) (s : Signature) → slice_get (entries_in group from) n ≡ Some s → slice_get (entries_in group words) (in_number group n) ≡ Some (renamed from words s)
  entry_at group n s at = ap (λ name. slice_get (entries_in group words) (number_of (names (entries_in group words)) name)) (name_at (entries_in group from) n s at) ∙ entry_kept group n s at

  typed_kept : (es fs : List (List ℕ × ℕ)) (n : ℕ) (e : List ℕ × ℕ) → slice_get (map typed_entry fs) n ≡ Some (renamed from words (typed_entry e)) → slice_get fs n ≡ Some (e.0, type_in from words e.1)
  typed_kept es fs n e at =
      let f = at_mapped typed_entry fs n (renamed from words (typed_entry e)) at in
      let named : f.0.0 ≡ e.0 = ap (λ s. s.name) f.2 in
      let params : (f.0.1 ∷ []) ≡ (type_in from words e.1 ∷ []) = ap (λ s. s.params) f.2 in
      let typed : f.0.1 ≡ type_in from words e.1 = cc in
      f.1 ∙ (λ i. Some (named i, typed i))

  pub type_at : (n : ℕ) (e : List ℕ × ℕ) → slice_get from.types n ≡ Some e → slice_get words.types (type_in from words n) ≡ Some (e.0, type_in from words e.1)
  type_at n e at =
      ap (slice_get words.types) (type_in_is n) ∙ typed_kept from.types words.types (in_number Types n) e (entry_at Types n (typed_entry e) (typed_at from.types n e at))

  pub object_at : (n : ℕ) (e : List ℕ × ℕ) → slice_get from.objects n ≡ Some e → slice_get words.objects (object_in from words n) ≡ Some (e.0, type_in from words e.1)
  object_at n e at =
      ap (slice_get words.objects) (object_in_is n) ∙ typed_kept from.objects words.objects (in_number Objects n) e (entry_at Objects n (typed_entry e) (typed_at from.objects n e at))

  -- ---- types

  parent_listed : (n : ℕ) → n < length from.types → parent from.types n < length from.types
  parent_listed n lt =
      let e = item_at from.types n lt in
      subst (λ o. option_map_or (λ entry. entry.1) o 0 < length from.types) (sym e.1)
      (All_item from.types n e.0 e.1 (λ f. f.1 < length from.types) (type_listed from.types from.types (facts_of_words from).types_kept.kept))

  parent_kept : (n : ℕ) → n < length from.types → parent words.types (type_in from words n) ≡ type_in from words (parent from.types n)
  parent_kept n lt =
      let e = item_at from.types n lt in
      ap (λ o. option_map_or (λ entry. entry.1) o 0) (type_at n e.0 e.1) ∙ sym (ap (λ o. type_in from words (option_map_or (λ entry. entry.1) o 0)) e.1)

  ancestor_listed : (k n : ℕ) → n < length from.types → ancestor from.types k n < length from.types
  ancestor_listed zero n lt = lt
  ancestor_listed (suc k) n lt = parent_listed (ancestor from.types k n) (ancestor_listed k n lt)

  ancestor_kept : (k n : ℕ) → n < length from.types → ancestor words.types k (type_in from words n) ≡ type_in from words (ancestor from.types k n)
  ancestor_kept zero n lt = refl
  ancestor_kept (suc k) n lt = ap (parent words.types) (ancestor_kept k n lt) ∙ parent_kept (ancestor from.types k n) (ancestor_listed k n lt)

  pub below_kept : (n above : ℕ) → n < length from.types → is_of_type from.types n above ≡ true → is_of_type words.types (type_in from words n) (type_in from words above) ≡ true
  below_kept n above lt below =
      let up = steps_up from.types n above below in
      let e = item_at from.types n lt in
      below_any words.types (facts_of_words words).types_kept (type_in from words n) (slice_get_within words.types (type_in from words n) _ (type_at n e.0 e.1)) up.0 (type_in from words above)
      (ancestor_kept up.0 n lt ∙ ap (type_in from words) up.2)

  -- ---- objects and terms

  pub object_kept : (o type : ℕ) → is_object_of from o type ≡ true → is_object_of words (object_in from words o) (type_in from words type) ≡ true
  object_kept o type fit =
      let e = entry_passes (λ f. is_of_type from.types f.1 type) from.objects o fit in
      let listed = All_item from.objects o e.0 e.1 (λ f. f.1 < length from.types) (type_listed from.types from.objects (facts_of_words from).objects_kept) in
      entry_from (λ f. is_of_type words.types f.1 (type_in from words type)) words.objects (object_in from words o) (e.0.0, type_in from words e.0.1) (object_at o e.0 e.1) (below_kept e.0.1 type listed e.2)

  pub term_kept : (params : List ℕ) → All (λ t. t < length from.types) params → (term : Term) (type : ℕ) → is_term_of from params term type ≡ true → is_term_of words (map (type_in from words) params) (term_in from words term) (type_in from words type) ≡ true
  term_kept params listed (Param i) type fit =
      let d = entry_passes (λ declared. is_of_type from.types declared type) params i fit in
      entry_from (λ declared. is_of_type words.types declared (type_in from words type)) (map (type_in from words) params) i (type_in from words d.0)
      (slice_get-map (type_in from words) params i ∙ ap (option_map (type_in from words)) d.1)
      (below_kept d.0 type (All_item params i d.0 d.1 (λ t. t < length from.types) listed) d.2)
  term_kept params listed (Object o) type fit = object_kept o type fit

  -- what fits a signature fits it in the other numbers
  pub fits_kept : {X Y : Type 0} (is_of : X → ℕ → Bool) (is_of_new : Y → ℕ → Bool) (f : X → Y) → ((x : X) (type : ℕ) → is_of x type ≡ true → is_of_new (f x) (type_in from words type) ≡ true)
      → (group : Group) (n : ℕ) (args : List X) → fits_signature is_of (entries_in group from) n args ≡ true → fits_signature is_of_new (entries_in group words) (in_number group n) (map f args) ≡ true
  fits_kept is_of is_of_new f kept group n args fit =
      let s = entry_passes (λ t. pointwise is_of args t.params) (entries_in group from) n fit in
      entry_from (λ t. pointwise is_of_new (map f args) t.params) (entries_in group words) (in_number group n) (renamed from words s.0) (entry_at group n s.0 s.1)
      (pointwise_kept is_of is_of_new f (type_in from words) kept args s.0.params s.2)

  -- ---- what differs stays different

  pub number_apart : (group : Group) (n m : ℕ) → n < length (entries_in group from) → m < length (entries_in group from) → in_number group n ≡ in_number group m → n ≡ m
  number_apart group n m n_listed m_listed same =
      let s = item_at (entries_in group from) n n_listed in
      let t = item_at (entries_in group from) m m_listed in
      let both : Some (renamed from words s.0) ≡ Some (renamed from words t.0) = sym (entry_at group n s.0 s.1) ∙ ap (slice_get (entries_in group words)) same ∙ entry_at group m t.0 t.1 in
      let entries : renamed from words s.0 ≡ renamed from words t.0 = cc in
      let named : s.0.name ≡ t.0.name = ap (λ e. e.name) entries in
      sym (number_is (entries_in group from) (entries_apart group from) n s.0 s.1) ∙ ap (number_of (names (entries_in group from))) named ∙ number_is (entries_in group from) (entries_apart group from) m t.0 t.1
