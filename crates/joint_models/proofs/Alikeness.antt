-- Where vocabularies agree they have the same under each name, and the other way round.
use Rattle.std.proofs.Common.{◌≡◌, ℕ, ◌<◌, ◌&&◌, Bool, true, false, List, [], ◌∷◌, length, map, Option, Some, None, refl, sym, ap, subst, ◌∙◌, arith, ⊎_elim}
use Rattle.std.specs.Prelude.{◌≢◌, ◌↔◌, not, AllPairs, Contains, IsTrue, slice_get}
use Rattle.std.specs.Bool.{Decides}
use Rattle.std.specs.Option.{option_map}
use Rattle.std.specs.Cmp.Lexicographic.{pointwise, pointwise_decides}
use Rattle.std.proofs.lemmas.Bool.{true≢false, cases_Bool, not-true, not_from_false, false_from_ne_true}
use Rattle.std.proofs.lemmas.List.{get_or-map, length-map}
use Rattle.std.proofs.lemmas.Option.{slice_get_within, slice_get-get_or, get_or_from_slice_get}
use Rattle.model_kit.specs.declared.vocabulary.Vocabulary.{Vocabulary}
use Rattle.model_kit.specs.declared.vocabulary.Signature.{Signature}
use Rattle.model_kit.specs.Same.{same_numbers}
use Rattle.model_kit.specs.Pairs.{type_name, typed_names, Agree}
use Rattle.model_kit.proofs.Alike.{same_numbers-decides}
use Rattle.model_kit.proofs.WordFacts.{facts_of_words}
use Rattle.joint_models.specs.declared.group.Group.{Group}
use Rattle.joint_models.specs.declared.group.Group.TheVariants.{Types, Objects, Actions, Predicates, Functions}
use Rattle.joint_models.specs.declared.stop.PairFault.{PairFault}
use Rattle.joint_models.specs.Listed.{typed_entry, entry_named}
use Rattle.joint_models.specs.Disagreements.{entries_in, has, AreAlike, is_shared, AgreeIn, IsFirstDisagreement}
use Rattle.joint_models.specs.Searching.{have_same_types}
use Rattle.joint_models.proofs.Entries.{NamesDiffer, entry_cases, entry_has_name, entry_is}
use Rattle.mre_base.proofs.Listed.{item_contained, place_of_contained, map-contains, contains-map}

-- ---- what is alike

pub alike_some : (shared : Bool) (p q : List (List ℕ)) → AreAlike shared (Some p) (Some q) → p ≡ q
alike_some true p q same = cc
alike_some false p q same = same

pub alike_from_some : (shared : Bool) (p q : List (List ℕ)) → p ≡ q → AreAlike shared (Some p) (Some q)
alike_from_some true p q same = ap Some same
alike_from_some false p q same = same

pub alike_none : (shared : Bool) → AreAlike shared None None
alike_none true = refl
alike_none false = tt

same_texts-decides : (ps qs : List (List ℕ)) → Decides (pointwise same_numbers ps qs) (ps ≡ qs)
same_texts-decides = pointwise_decides same_numbers-decides

same_if_not_other : (ps qs : List (List ℕ)) → ¬ (ps ≢ qs) → ps ≡ qs
same_if_not_other ps qs not_other =
    ⊎_elim
    (λ yes. (same_texts-decides ps qs).0 yes)
    (λ no. absurd (not_other (λ same. true≢false (sym ((same_texts-decides ps qs).1 same) ∙ no))))
    (cases_Bool (pointwise same_numbers ps qs))

pub alike_if_not_other : (shared : Bool) (o p : Option (List (List ℕ))) → ¬ ¬ AreAlike shared o p → AreAlike shared o p
alike_if_not_other true None None not_other = refl
alike_if_not_other true None (Some q) not_other = absurd (not_other (λ same. cc))
alike_if_not_other true (Some o) None not_other = absurd (not_other (λ same. cc))
alike_if_not_other true (Some o) (Some q) not_other = ap Some (same_if_not_other o q (λ other. not_other (λ same. other (cc))))
alike_if_not_other false None p not_other = tt
alike_if_not_other false (Some o) None not_other = tt
alike_if_not_other false (Some o) (Some q) not_other = same_if_not_other o q not_other

-- alike where only what both have is compared
alike_by : (o p : Option (List (List ℕ))) → ((a b : List (List ℕ)) → o ≡ Some a → p ≡ Some b → a ≡ b) → AreAlike false o p
alike_by None p each = tt
alike_by (Some a) None each = tt
alike_by (Some a) (Some b) each = each a b refl refl

pub alike_both : (o p : Option (List (List ℕ))) → AreAlike false o p → (a b : List (List ℕ)) → o ≡ Some a → p ≡ Some b → a ≡ b
alike_both None p alike a b o_is p_is = absurd (cc)
alike_both (Some o) None alike a b o_is p_is = absurd (cc)
alike_both (Some o) (Some p) alike a b o_is p_is =
    let one : o ≡ a = cc in
    let two : p ≡ b = cc in
    sym one ∙ alike ∙ two

-- a test of the types of both
pub both_disagree : (shared : Bool) (o p : Option (List (List ℕ))) (a b : List (List ℕ)) (same : Bool) → o ≡ Some a → p ≡ Some b → Decides same (a ≡ b) → IsTrue (not same) ↔ (¬ AreAlike shared o p)
both_disagree shared o p a b same o_is p_is decides = (
  λ differ alike. true≢false (sym (decides.1 (alike_some shared a b (subst (λ x. AreAlike shared (Some a) x) p_is (subst (λ x. AreAlike shared x p) o_is alike)))) ∙ not-true same differ),
  λ other. not_from_false same (false_from_ne_true same (λ yes.
      other (subst (λ x. AreAlike shared x p) (sym o_is) (subst (λ x. AreAlike shared (Some a) x) (sym p_is) (alike_from_some shared a b (decides.0 yes)))))),
)

pub same_types-decides : (one two : Vocabulary) (ts us : List ℕ) → Decides (have_same_types one two ts us) (map (type_name one) ts ≡ map (type_name two) us)
same_types-decides one two ts us =
    let each = same_texts-decides (map (type_name one) ts) (map (type_name two) us) in
    let same = tested ts us in
    (λ e. each.0 (same ∙ e), λ e. sym same ∙ each.1 e)
  where
    tested : (ts us : List ℕ) → pointwise same_numbers (map (type_name one) ts) (map (type_name two) us) ≡ have_same_types one two ts us
    tested [] [] = refl
    tested [] (u ∷ us) = refl
    tested (t ∷ ts) [] = refl
    tested (t ∷ ts) (u ∷ us) = ap (λ b. same_numbers (type_name one t) (type_name two u) && b) (tested ts us)

-- ---- what a vocabulary has

-- the types with which entries have a name
abbrev pub has_of : Vocabulary → List Signature → List ℕ → Option (List (List ℕ))
has_of words entries name = option_map (λ s. map (type_name words) s.params) (entry_named entries name)

pub has_from : (words : Vocabulary) (entries : List Signature) (name : List ℕ) (s : Signature) → entry_named entries name ≡ Some s → has_of words entries name ≡ Some (map (type_name words) s.params)
has_from words entries name s at = ap (option_map (λ s. map (type_name words) s.params)) at

pub has_none : (words : Vocabulary) (entries : List Signature) (name : List ℕ) → entry_named entries name ≡ None → has_of words entries name ≡ None
has_none words entries name at = ap (option_map (λ s. map (type_name words) s.params)) at

-- the entry that was found
pub has_entry : (words : Vocabulary) (entries : List Signature) (name : List ℕ) (types : List (List ℕ)) → has_of words entries name ≡ Some types → (s : Signature) × (entry_named entries name ≡ Some s) × (map (type_name words) s.params ≡ types)
has_entry words entries name types had =
    ⊎_elim
    (λ there. (there.0, there.1, (let same : Some (map (type_name words) there.0.params) ≡ Some types = sym (has_from words entries name there.0 there.1) ∙ had in cc)))
    (λ none. absurd (let same : None ≡ Some types = sym (has_none words entries name none.0) ∙ had in cc))
    (entry_cases entries name)

typed_apart : (es : List (List ℕ × ℕ)) → AllPairs (λ e f. e.0 ≢ f.0) es → NamesDiffer (map typed_entry es)
typed_apart es apart i j d less within same =
    let within_es : j < length es = rw (← length-map es typed_entry) within in
    let first : i < length es = omega arith in
    let at_i = get_or-map typed_entry es i (d.name, 0) d first in
    let at_j = get_or-map typed_entry es j (d.name, 0) d within_es in
    apart i j (d.name, 0) less within_es (ap (λ s. s.name) (sym at_i) ∙ same ∙ ap (λ s. s.name) at_j)

-- no two entries of a group have the same name
pub entries_apart : (group : Group) (words : Vocabulary) → NamesDiffer (entries_in group words)
entries_apart Types words = typed_apart words.types (facts_of_words words).types_kept.kept.apart
entries_apart Objects words = typed_apart words.objects (facts_of_words words).objects_kept.apart
entries_apart Actions words = (facts_of_words words).actions_kept.apart
entries_apart Predicates words = (facts_of_words words).predicates_kept.apart
entries_apart Functions words = (facts_of_words words).functions_kept.apart

-- ---- types and objects

module _ (words : Vocabulary) (es : List (List ℕ × ℕ)) where
  has_to_listed : (name : List ℕ) (types : List (List ℕ)) → has_of words (map typed_entry es) name ≡ Some types → (t : List ℕ) × (types ≡ t ∷ []) × Contains (typed_names words es) (name, t)
  has_to_listed name types had =
      let entry = has_entry words (map typed_entry es) name types had in
      let listed = contains-map typed_entry es entry.0 (item_contained (map typed_entry es) _ entry.0 entry.1) in
      let e = listed.0 in
      let named : e.0 ≡ name = ap (λ s. s.name) listed.2 ∙ entry_has_name (map typed_entry es) name entry.0 entry.1 in (
        type_name words e.1,
        sym entry.2 ∙ ap (λ s. map (type_name words) s.params) (sym listed.2),
        subst (Contains (typed_names words es)) (λ i. (named i, type_name words e.1)) (map-contains (λ entry. (entry.0, type_name words entry.1)) es e listed.1),
      )

  listed_to_has : NamesDiffer (map typed_entry es) → (name t : List ℕ) → Contains (typed_names words es) (name, t) → has_of words (map typed_entry es) name ≡ Some (t ∷ [])
  listed_to_has apart name t there =
      let listed = contains-map (λ entry. (entry.0, type_name words entry.1)) es (name, t) there in
      let e = listed.0 in
      let at = place_of_contained (map typed_entry es) (typed_entry e) (map-contains typed_entry es e listed.1) in
      let named : e.0 ≡ name = ap (λ p. p.0) listed.2 in
      subst (λ n. has_of words (map typed_entry es) n ≡ Some (t ∷ [])) named
      (has_from words (map typed_entry es) e.0 (typed_entry e) (entry_is (map typed_entry es) apart at.0 (typed_entry e) at.1)
      ∙ ap (λ u. Some (u ∷ [])) (ap (λ p. p.1) listed.2))

module _ (one two : Vocabulary) (es fs : List (List ℕ × ℕ)) (one_apart : NamesDiffer (map typed_entry es)) (two_apart : NamesDiffer (map typed_entry fs)) where
  typed_over : ((e : List ℕ × List ℕ) → Contains (typed_names one es) e ↔ Contains (typed_names two fs) e) → (name : List ℕ) (types : List (List ℕ))
      → has_of one (map typed_entry es) name ≡ Some types → has_of two (map typed_entry fs) name ≡ Some types
  typed_over same name types had =
      let listed = has_to_listed one es name types had in
      listed_to_has two fs two_apart name listed.0 ((same (name, listed.0)).0 listed.2) ∙ ap Some (sym listed.1)

  typed_from : ((name : List ℕ) → has_of one (map typed_entry es) name ≡ has_of two (map typed_entry fs) name) → (e : List ℕ × List ℕ) → Contains (typed_names one es) e → Contains (typed_names two fs) e
  typed_from alike e there =
      let had = sym (alike e.0) ∙ listed_to_has one es one_apart e.0 e.1 there in
      let listed = has_to_listed two fs e.0 (e.1 ∷ []) had in
      let same : e.1 ≡ listed.0 = cc in
      subst (λ t. Contains (typed_names two fs) (e.0, t)) (sym same) listed.2

both_ways_alike : (o p : Option (List (List ℕ))) → ((a : List (List ℕ)) → o ≡ Some a → p ≡ Some a) → ((a : List (List ℕ)) → p ≡ Some a → o ≡ Some a) → o ≡ p
both_ways_alike None None to from = refl
both_ways_alike None (Some b) to from = from b refl
both_ways_alike (Some a) p to from = sym (to a refl)

-- ---- actions, predicates and functions

module _ (one two : Vocabulary) (ss ts : List Signature) (one_apart : NamesDiffer ss) (two_apart : NamesDiffer ts) where
  params_alike : ((s t : Signature) → Contains ss s → Contains ts t → s.name ≡ t.name → map (type_name one) s.params ≡ map (type_name two) t.params)
      → (name : List ℕ) → AreAlike false (has_of one ss name) (has_of two ts name)
  params_alike same name =
      alike_by (has_of one ss name) (has_of two ts name) (λ a b one_has two_has.
      let s = has_entry one ss name a one_has in
      let t = has_entry two ts name b two_has in
      sym s.2 ∙ same s.0 t.0 (item_contained ss _ s.0 s.1) (item_contained ts _ t.0 t.1) (entry_has_name ss name s.0 s.1 ∙ sym (entry_has_name ts name t.0 t.1)) ∙ t.2)

  params_from : ((name : List ℕ) → AreAlike false (has_of one ss name) (has_of two ts name))
      → (s t : Signature) → Contains ss s → Contains ts t → s.name ≡ t.name → map (type_name one) s.params ≡ map (type_name two) t.params
  params_from alike s t s_there t_there named =
      let s_at = place_of_contained ss s s_there in
      let t_at = place_of_contained ts t t_there in
      alike_both (has_of one ss s.name) (has_of two ts s.name) (alike s.name) (map (type_name one) s.params) (map (type_name two) t.params)
      (has_from one ss s.name s (entry_is ss one_apart s_at.0 s s_at.1))
      (has_from two ts s.name t (ap (entry_named ts) named ∙ entry_is ts two_apart t_at.0 t t_at.1))

-- ---- agreement

module _ (planner user : Vocabulary) where
  -- models that agree have alike what they have under a name
  pub alike_in : Agree planner user → (group : Group) (name : List ℕ) → AreAlike (is_shared group) (has group planner name) (has group user name)
  alike_in agree Types name =
      both_ways_alike (has Types planner name) (has Types user name)
      (typed_over planner user planner.types user.types (entries_apart Types planner) (entries_apart Types user) agree.types name)
      (typed_over user planner user.types planner.types (entries_apart Types user) (entries_apart Types planner) (λ e. ((agree.types e).1, (agree.types e).0)) name)
  alike_in agree Objects name =
      both_ways_alike (has Objects planner name) (has Objects user name)
      (typed_over planner user planner.objects user.objects (entries_apart Objects planner) (entries_apart Objects user) agree.objects name)
      (typed_over user planner user.objects planner.objects (entries_apart Objects user) (entries_apart Objects planner) (λ e. ((agree.objects e).1, (agree.objects e).0)) name)
  alike_in agree Actions name = params_alike planner user planner.actions user.actions (entries_apart Actions planner) (entries_apart Actions user) agree.actions name
  alike_in agree Predicates name = params_alike planner user planner.predicates user.predicates (entries_apart Predicates planner) (entries_apart Predicates user) agree.predicates name
  alike_in agree Functions name = params_alike planner user planner.functions user.functions (entries_apart Functions planner) (entries_apart Functions user) agree.functions name

  alike_if : (group : Group) → AgreeIn group planner user → (name : List ℕ) → AreAlike (is_shared group) (has group planner name) (has group user name)
  alike_if group agree name = alike_if_not_other (is_shared group) (has group planner name) (has group user name) (agree name)

  -- models that disagree about no name agree
  pub agree_from : AgreeIn Types planner user → AgreeIn Objects planner user → AgreeIn Actions planner user → AgreeIn Predicates planner user → AgreeIn Functions planner user → Agree planner user
  agree_from types objects actions predicates functions = record {
    types = λ e. (
      typed_from planner user planner.types user.types (entries_apart Types planner) (entries_apart Types user) (alike_if Types types) e,
      typed_from user planner user.types planner.types (entries_apart Types user) (entries_apart Types planner) (λ name. sym (alike_if Types types name)) e,
    );
    objects = λ e. (
      typed_from planner user planner.objects user.objects (entries_apart Objects planner) (entries_apart Objects user) (alike_if Objects objects) e,
      typed_from user planner user.objects planner.objects (entries_apart Objects user) (entries_apart Objects planner) (λ name. sym (alike_if Objects objects name)) e,
    );
    actions = params_from planner user planner.actions user.actions (entries_apart Actions planner) (entries_apart Actions user) (alike_if Actions actions);
    predicates = params_from planner user planner.predicates user.predicates (entries_apart Predicates planner) (entries_apart Predicates user) (alike_if Predicates predicates);
    functions = params_from planner user planner.functions user.functions (entries_apart Functions planner) (entries_apart Functions user) (alike_if Functions functions);
  }

  -- a disagreement that is told is one
  pub told_disagree : (fault : PairFault) → IsFirstDisagreement planner user fault → ¬ Agree planner user
  told_disagree fault told agree = told.first.earliest.here (alike_in agree told.group told.first.name)
