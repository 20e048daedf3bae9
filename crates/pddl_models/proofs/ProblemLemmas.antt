-- The vocabulary of a domain and a problem agrees with what the domain declares before the words of the problem.
use Rattle.std.proofs.Common.{◌≡◌, ℕ, ◌<◌, ◌||◌, suc, zero, Bool, true, false, cond, Some, None, Option, List, [], ◌∷◌, ◌++◌, length, map, refl, sym, ap, ◌∙◌, arith}
use Rattle.std.specs.Prelude.{not, filter, slice_get, unwrap_or, codes, All, IsTrue}
use Rattle.std.specs.List.{list_any}
use Rattle.std.specs.Option.{option_map, option_map_or, option_or}
use Rattle.std.specs.Str.{bytes_eq}
use Rattle.std.proofs.lemmas.Bool.{true≢false, or_right}
use Rattle.std.proofs.lemmas.List.{append-nil}
use Rattle.std.proofs.lemmas.List.Elements.{All-head, All-tail}
use Rattle.std.proofs.lemmas.Option.{slice_get-map}
use Rattle.mre_base.specs.declared.text.Text.{Text}
use Rattle.model_kit.specs.declared.vocabulary.Signature.{Signature}
use Rattle.model_kit.specs.declared.vocabulary.Vocabulary.{Vocabulary}
use Rattle.model_kit.specs.Types as numbered
use Rattle.model_kit.specs.Words.{is_signature}
use Rattle.mre_base.proofs.Loops.{All_item}
use Rattle.mre_base.proofs.Options.{same_some}
use Rattle.mre_base.proofs.Listed.{item_at}
use Rattle.model_kit.proofs.StateLemmas.{list_any-map}
use Rattle.model_kit.proofs.WordFacts.{facts_of_words, type_listed, signature_types, SignatureFacts}
use Rattle.pddl_names.specs.declared.role.Role.{Role}
use Rattle.pddl_names.specs.declared.role.Role.TheVariants as role
use Rattle.pddl_names.specs.declared.role.Word.{Word}
use Rattle.pddl_names.specs.Listings.{Typed, Signed, Declared, declared, first_of, parent_of, types_listed, objects_listed, predicates_in, functions_in, action_params, with_type, with_predicate, with_function, with_param, types_of, own_params, type_behind}
use Rattle.pddl_names.specs.Numbers.{entry_name}
use Rattle.pddl_models.specs.Saying.{is_of_problem, AreOfProblem}
use Rattle.pddl_names.specs.Texts.{type_name, entry_declared, signature_declared, declared_by}
use Rattle.pddl_vocabulary.specs.Values.{firsts, place_in, names_of, words_named, objects_said, same_entry, SaysMore}
use Rattle.pddl_models.proofs.AgreeLemmas.{type_place, IsSigned, Agrees}
use Rattle.pddl_models.proofs.DomainLemmas.{type_below, top_parent}
use Rattle.pddl_names.proofs.NumberLemmas.{one_number}
use Rattle.pddl_models.proofs.PlaceInLemmas.{is_among, name_self, name_same, at_place, place_none, name_at, first_at, first_none, first_kept, first_first}

-- ---- the words of a problem declare only objects

module _ where
  no_type : (r : Role) (e : Typed) (more : List Typed) → is_of_problem r ≡ true → more ≡ [] → with_type r e more ≡ []
  no_type role.ListedType e more is none = absurd (true≢false (sym is))
  no_type _ e more is none = none

  no_predicate : (r : Role) (e : Signed) (more : List Signed) → is_of_problem r ≡ true → more ≡ [] → with_predicate r e more ≡ []
  no_predicate role.Predicate e more is none = absurd (true≢false (sym is))
  no_predicate _ e more is none = none

  no_function : (r : Role) (e : Signed) (more : List Signed) → is_of_problem r ≡ true → more ≡ [] → with_function r e more ≡ []
  no_function role.Function e more is none = absurd (true≢false (sym is))
  no_function _ e more is none = none

  no_param : (r : Role) (e : Typed) (more : List Typed) → is_of_problem r ≡ true → more ≡ [] → with_param r e more ≡ []
  no_param (role.Variable o) e more is none = absurd (true≢false (sym is))
  no_param role.Action e more is none = absurd (true≢false (sym is))
  no_param _ e more is none = none

  abbrev IsOf : Word → Type 0
  IsOf w = IsTrue (is_of_problem w.role)

  pub no_types : (words : List Word) → AreOfProblem words → types_listed words ≡ []
  no_types [] all = refl
  no_types (w ∷ rest) all = no_type w.role (w.text, type_behind rest) (types_listed rest) (All-head IsOf w rest all) (no_types rest (All-tail IsOf w rest all))

  pub no_predicates : (words : List Word) → AreOfProblem words → predicates_in words ≡ []
  no_predicates [] all = refl
  no_predicates (w ∷ rest) all = no_predicate w.role (w.text, types_of (own_params rest)) (predicates_in rest) (All-head IsOf w rest all) (no_predicates rest (All-tail IsOf w rest all))

  pub no_functions : (words : List Word) → AreOfProblem words → functions_in words ≡ []
  no_functions [] all = refl
  no_functions (w ∷ rest) all = no_function w.role (w.text, types_of (own_params rest)) (functions_in rest) (All-head IsOf w rest all) (no_functions rest (All-tail IsOf w rest all))

  pub no_params : (words : List Word) → AreOfProblem words → action_params words ≡ []
  no_params [] all = refl
  no_params (w ∷ rest) all = no_param w.role (w.text, type_behind rest) (action_params rest) (All-head IsOf w rest all) (no_params rest (All-tail IsOf w rest all))

-- ---- the names of a vocabulary

-- the name of an entry has the entry's place
module _ (words : Vocabulary) where
  abbrev types : List (Text × ℕ)
  types = words.types

  abbrev names : List Text
  names = names_of types

  among_at : (entries : List (Text × ℕ)) (n : ℕ) (e : Text × ℕ) → slice_get entries n ≡ Some e → is_among (names_of entries) e.0 ≡ true
  among_at [] n e at = absurd (cc)
  among_at (f ∷ entries) zero e at =
      ap (λ b. b || is_among (names_of entries) e.0) (ap (λ (t : Text). bytes_eq t e.0) (ap (λ (g : Text × ℕ). g.0) (same_some f e at)) ∙ name_self e.0)
  among_at (f ∷ entries) (suc n) e at = or_right (bytes_eq f.0 e.0) (is_among (names_of entries) e.0) (among_at entries n e at)

  pub place_of : (n : ℕ) (e : Text × ℕ) → slice_get types n ≡ Some e → place_in names e.0 ≡ n
  place_of n e at =
      one_number entry_name types e.0 (facts_of_words words).types_kept.kept.apart (place_in names e.0) n
      (sym (slice_get-map entry_name types (place_in names e.0)) ∙ at_place names e.0 (among_at types n e at))
      (ap (option_map entry_name) at)

  -- a type is the place of its name
  pub name_place : (type : ℕ) → type < length types → place_in names (type_name types type) ≡ type
  name_place type lt =
      let e = item_at types type lt in
      ap (λ o. place_in names (unwrap_or (option_map entry_name o) (codes "object"))) e.1 ∙ place_of type e.0 e.1

  names_place : (ps : List ℕ) → All (λ type. type < length types) ps → map (place_in names) (map (type_name types) ps) ≡ ps
  names_place [] all = refl
  names_place (p ∷ ps) all =
      (λ i. name_place p (All-head (λ (type : ℕ). type < length types) p ps all) i ∷ names_place ps (All-tail (λ (type : ℕ). type < length types) p ps all) i)

  -- ---- types

  abbrev listed : List Typed
  listed = map (entry_declared types) types

  entry_names : (entries : List (Text × ℕ)) → map name_at (map (entry_declared types) entries) ≡ names_of entries
  entry_names [] = refl
  entry_names (e ∷ entries) = ap (λ ns. e.0 ∷ ns) (entry_names entries)

  -- the first entry of a name, and what is declared of it
  declared_first : (entries : List (Text × ℕ)) (name : Text) → first_of (map (entry_declared types) entries) name ≡ option_map (type_name types) (first_of entries name)
  declared_first [] name = refl
  declared_first (e ∷ entries) name = by (bytes_eq e.0 name) (first_of (map (entry_declared types) entries) name) (first_of entries name) (declared_first entries name)
    where
      by : (b : Bool) (o : Option Text) (p : Option ℕ) → o ≡ option_map (type_name types) p → cond b (Some (type_name types e.1)) o ≡ option_map (type_name types) (cond b (Some e.1) p)
      by true o p is = refl
      by false o p is = is

  first_some : (entries : List (Text × ℕ)) (name : Text) → is_among (names_of entries) name ≡ true → (n : ℕ) × (first_of entries name ≡ Some n)
  first_some [] name among = absurd (true≢false (sym among))
  first_some (e ∷ entries) name among = by (bytes_eq e.0 name) (first_of entries name) (is_among (names_of entries) name) (first_some entries name) among
    where
      by : (b : Bool) (o : Option ℕ) (a : Bool) → (a ≡ true → (n : ℕ) × (o ≡ Some n)) → (b || a) ≡ true → (n : ℕ) × (cond b (Some e.1) o ≡ Some n)
      by true o a rest among = (e.1, refl)
      by false o a rest among = rest among

  object_place : place_in names (codes "object") ≡ 0
  object_place = place_of 0 (codes "object", 0) (facts_of_words words).types_kept.first

  parent_by : (t : Text) (b : Bool) → is_among names t ≡ b → numbered.parent types (place_in names t) ≡ place_in names (parent_of listed t)
  parent_by t true among =
      let n = first_some types t among in
      let at = first_at types t n.0 n.1 in
      let lt : n.0 < length types = All_item types (place_in names t) (t, n.0) at (λ e. e.1 < length types) (type_listed types types (facts_of_words words).types_kept.kept) in
      ap (λ o. option_map_or (λ entry. entry.1) o 0) at
      ∙ sym (ap (λ o. place_in names (unwrap_or o (codes "object"))) (declared_first types t ∙ ap (option_map (type_name types)) n.1) ∙ name_place n.0 lt)
  parent_by t false none =
      ap (numbered.parent types) (place_none names t none) ∙ top_parent words
      ∙ sym (ap (λ o. place_in names (unwrap_or o (codes "object"))) (declared_first types t ∙ ap (option_map (type_name types)) (first_none types t none)) ∙ object_place)

  -- ---- signatures

  abbrev stated : List Signature → List Signed
  stated signatures = map (signature_declared types) signatures

  stated_names : (signatures : List Signature) → map name_at (stated signatures) ≡ words_named signatures
  stated_names [] = refl
  stated_names (s ∷ signatures) = ap (λ ns. s.name ∷ ns) (stated_names signatures)

  signed_from : (signatures : List Signature) → SignatureFacts types signatures → (name : Text) (dues : List Text) (n : ℕ) → n ≡ place_in (words_named signatures) name
      → (o : Option Signature) → slice_get signatures n ≡ o → option_map (signature_declared types) o ≡ Some (name, dues) → IsSigned words signatures name dues
  signed_from signatures facts name dues n is None at made = absurd (cc)
  signed_from signatures facts name dues n is (Some s) at made =
      let same : signature_declared types s ≡ (name, dues) = same_some (signature_declared types s) (name, dues) made in
      record {
        signature = s;
        at = ap (slice_get signatures) (sym is) ∙ at;
        named = ap (λ (e : Signed). e.0) same;
        params = sym (ap (map (place_in names)) (sym (ap (λ (e : Signed). e.1) same)) ∙ names_place s.params (signature_types types s (All_item signatures n s at (λ t. IsTrue (is_signature types t)) facts.fit)));
      }

  pub signed_at : (signatures : List Signature) → SignatureFacts types signatures → (name : Text) (dues : List Text) → first_of (stated signatures) name ≡ Some dues → IsSigned words signatures name dues
  signed_at signatures facts name dues at =
      let n : ℕ = place_in (words_named signatures) name in
      signed_from signatures facts name dues n refl (slice_get signatures n) refl
      (sym (slice_get-map (signature_declared types) signatures n) ∙ sym (ap (λ ns. slice_get (stated signatures) (place_in ns name)) (stated_names signatures)) ∙ first_at (stated signatures) name dues at)

-- ---- entries after entries

module _ {X : Type 0} (ys : List (Text × X)) (name : Text) where
  append_by : (e : Text × X) (b : Bool) (o p : Option X) → o ≡ option_or p (first_of ys name) → cond b (Some e.1) o ≡ option_or (cond b (Some e.1) p) (first_of ys name)
  append_by e true o p is = refl
  append_by e false o p is = is

  first_append : (xs : List (Text × X)) → first_of (xs ++ ys) name ≡ option_or (first_of xs name) (first_of ys name)
  first_append [] = refl
  first_append (e ∷ xs) = append_by e (bytes_eq e.0 name) (first_of (xs ++ ys) name) (first_of xs name) (first_append xs)

module _ (domain : Vocabulary) (said : List Word) (words : Vocabulary) (more : SaysMore domain said words) (problem : AreOfProblem said) where
  abbrev known : Declared
  known = declared (declared_by domain) said

  abbrev domain_names : List Text
  domain_names = names_of domain.types

  names_are : names_of words.types ≡ domain_names
  names_are = ap names_of more.types

  types_known : known.types ≡ listed domain
  types_known = ap (λ ts. listed domain ++ ts) (no_types said problem) ∙ append-nil (listed domain)

  types_agree : (t : Text) → numbered.parent words.types (type_place words t) ≡ type_place words (parent_of known.types t)
  types_agree t =
      (λ i. numbered.parent (more.types i) (place_in (names_of (more.types i)) t))
      ∙ parent_by domain t (is_among domain_names t) refl
      ∙ (λ i. place_in (sym names_are i) (parent_of (sym types_known i) t))

  -- ---- objects

  abbrev numbered_object : Typed → Text × ℕ
  numbered_object e = (e.0, place_in domain_names e.1)

  -- the domain's objects
  old_objects : (entries : List (Text × ℕ)) → All (λ e. e.1 < length domain.types) entries → (name : Text)
      → first_of entries name ≡ option_map (place_in domain_names) (first_of (map (entry_declared domain.types) entries) name)
  old_objects [] all name = refl
  old_objects (e ∷ entries) all name =
      by (bytes_eq e.0 name) (first_of entries name) (first_of (map (entry_declared domain.types) entries) name)
      (old_objects entries (All-tail (λ (f : Text × ℕ). f.1 < length domain.types) e entries all) name)
      (name_place domain e.1 (All-head (λ (f : Text × ℕ). f.1 < length domain.types) e entries all))
    where
      by : (b : Bool) (o : Option ℕ) (p : Option Text) → o ≡ option_map (place_in domain_names) p → place_in domain_names (type_name domain.types e.1) ≡ e.1
          → cond b (Some e.1) o ≡ option_map (place_in domain_names) (cond b (Some (type_name domain.types e.1)) p)
      by true o p is same = ap (λ (n : ℕ). Some n) (sym same)
      by false o p is same = is

  -- the problem's objects
  new_objects : (entries : List Typed) (name : Text) → first_of (map numbered_object entries) name ≡ option_map (place_in domain_names) (first_of entries name)
  new_objects [] name = refl
  new_objects (e ∷ entries) name = by (bytes_eq e.0 name) (first_of (map numbered_object entries) name) (first_of entries name) (new_objects entries name)
    where
      by : (b : Bool) (o : Option ℕ) (p : Option Text) → o ≡ option_map (place_in domain_names) p → cond b (Some (place_in domain_names e.1)) o ≡ option_map (place_in domain_names) (cond b (Some e.1) p)
      by true o p is = refl
      by false o p is = is

  abbrev is_further : Text × ℕ → Bool
  is_further e = not (list_any (λ (f : Text × ℕ). bytes_eq (entry_name f) (entry_name e)) domain.objects)

  -- an object that the domain does not name is kept
  further_kept : (name : Text) → is_among (names_of domain.objects) name ≡ false → (e : Text × ℕ) → bytes_eq e.0 name ≡ true → is_further e ≡ true
  further_kept name none e is =
      ap not (sym (list_any-map (λ (other : Text). bytes_eq other e.0) entry_name domain.objects) ∙ ap (is_among (names_of domain.objects)) (name_same e.0 name is) ∙ none)

  not_named : (name : Text) → first_of domain.objects name ≡ None → is_among (names_of domain.objects) name ≡ false
  not_named name none = by (is_among (names_of domain.objects) name) refl
    where
      by : (b : Bool) → is_among (names_of domain.objects) name ≡ b → b ≡ false
      by true among = let some = first_some domain domain.objects name among in absurd (cc (none, some.1))
      by false among = refl

  or_by : (o : Option ℕ) (p : Option Text) (r : Option ℕ) (s : Option Text) → o ≡ option_map (place_in domain_names) p → (o ≡ None → r ≡ option_map (place_in domain_names) s)
      → option_or o r ≡ option_map (place_in domain_names) (option_or p s)
  or_by o None r s is later = ap (λ q. option_or q r) is ∙ later is
  or_by o (Some q) r s is later = ap (λ t. option_or t r) is

  objects_first : (name : Text) → first_of words.objects name ≡ option_map (place_in domain_names) (first_of known.objects name)
  objects_first name =
      ap (λ es. first_of es name) more.objects
      ∙ first_append (filter is_further (objects_said domain_names said)) name domain.objects
      ∙ or_by (first_of domain.objects name) (first_of (map (entry_declared domain.types) domain.objects) name) (first_of (filter is_further (objects_said domain_names said)) name) (first_of (objects_listed said) name)
      (old_objects domain.objects (type_listed domain.types domain.objects (facts_of_words domain).objects_kept) name)
      (λ none. first_kept is_further name (further_kept name (not_named name none)) (objects_said domain_names said)
      ∙ new_objects (firsts same_entry (objects_listed said)) name ∙ ap (option_map (place_in domain_names)) (first_first (objects_listed said) name))
      ∙ ap (option_map (place_in domain_names)) (sym (first_append (objects_listed said) name (map (entry_declared domain.types) domain.objects)))

  objects_agree : (name type : Text) → first_of known.objects name ≡ Some type → slice_get words.objects (place_in (names_of words.objects) name) ≡ Some (name, type_place words type)
  objects_agree name type at =
      first_at words.objects name (type_place words type)
      (objects_first name ∙ ap (option_map (place_in domain_names)) at ∙ (λ i. Some (place_in (sym names_are i) type)))

  -- ---- predicates and functions

  signed_more : (old new : List Signature) → new ≡ old → SignatureFacts domain.types old → (name : Text) (dues : List Text) → first_of (stated domain old) name ≡ Some dues → IsSigned words new name dues
  signed_more old new is facts name dues at =
      let signed = signed_at domain old facts name dues at in
      record {
        signature = signed.signature;
        at = (λ i. slice_get (is i) (place_in (words_named (is i)) name)) ∙ signed.at;
        named = signed.named;
        params = signed.params ∙ ap (λ ns. map (place_in ns) dues) (sym names_are);
      }

  -- the vocabulary agrees with what is declared
  pub problem_agrees : Agrees known words
  problem_agrees = record {
    types = types_agree;
    type_listed = type_below words;
    objects = objects_agree;
    predicates = λ name dues at.
        signed_more domain.predicates words.predicates more.predicates (facts_of_words domain).predicates_kept name dues
        (sym (ap (λ es. first_of es name) (ap (λ es. stated domain domain.predicates ++ es) (no_predicates said problem) ∙ append-nil (stated domain domain.predicates))) ∙ at);
    functions = λ name dues other at.
        signed_more domain.functions words.functions more.functions (facts_of_words domain).functions_kept name dues
        (sym (ap (λ es. first_of es name) (ap (λ es. stated domain domain.functions ++ es) (no_functions said problem) ∙ append-nil (stated domain domain.functions))) ∙ at);
  }
