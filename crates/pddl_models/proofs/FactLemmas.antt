-- In the well-named words of a problem the facts and the values fit the vocabulary.
use Rattle.std.proofs.Common.{◌≡◌, ℕ, ◌&&◌, Bool, true, false, cond, Some, None, Option, List, [], ◌∷◌, ◌++◌, map, refl, sym, ap, subst, ◌∙◌, append_assoc}
use Rattle.std.specs.Prelude.{◌==◌, slice_get, codes, IsTrue}
use Rattle.std.specs.List.{list_all}
use Rattle.std.specs.Option.{option_map, option_map_or}
use Rattle.std.specs.Str.{bytes_eq}
use Rattle.std.specs.Cmp.{first_so, second_so}
use Rattle.std.specs.Cmp.Lexicographic.{pointwise}
use Rattle.std.proofs.lemmas.Bool.{true≢false, and_from}
use Rattle.std.proofs.lemmas.Bool.Decides.{same_from_decides, Decides-like, Decides-eqb}
use Rattle.std.proofs.lemmas.Option.{slice_get-map}
use Rattle.mre_base.specs.declared.text.Text.{Text}
use Rattle.mre_base.proofs.Options.{same_some}
use Rattle.model_kit.specs.declared.atom.GroundAtom.{GroundAtom}
use Rattle.model_kit.specs.declared.vocabulary.Vocabulary.{Vocabulary}
use Rattle.model_kit.specs.Same.{same_atom, same_numbers}
use Rattle.model_kit.specs.Features.{are_ground_atoms, is_value, same_key}
use Rattle.model_kit.specs.Names.{are_entries}
use Rattle.model_kit.specs.Vocabulary.{is_ground_atom}
use Rattle.model_kit.proofs.Alike.{same_numbers-decides}
use Rattle.pddl_names.specs.declared.role.Role.{Role}
use Rattle.pddl_names.specs.declared.role.Role.TheVariants as role
use Rattle.pddl_names.specs.declared.role.Says.{Says}
use Rattle.pddl_names.specs.declared.role.Word.{Word}
use Rattle.pddl_names.specs.Heads.{is_head}
use Rattle.pddl_names.specs.Listings.{Signed, Declared, Given, declared, first_of, terms_behind, number_behind, values_in, action_params, is_below}
use Rattle.pddl_names.specs.Naming.{is_action, is_variable, action_words, due_types, term_type, IsNamed}
use Rattle.pddl_names.specs.Numbers.{entry_name, word_name}
use Rattle.pddl_names.specs.Params.{is_action_name}
use Rattle.pddl_models.specs.Saying.{is_saying, is_calling, is_of_problem, AreNoTotals, AreOfProblem}
use Rattle.pddl_models.specs.Saying as said_roles
use Rattle.pddl_names.specs.Texts.{declared_by}
use Rattle.pddl_names.proofs.ParamTypes.{action_name}
use Rattle.pddl_vocabulary.specs.Values.{firsts, place_in, names_of, words_named, SaysMore}
use Rattle.pddl_models.specs.Says.{atoms_in, ground_atom_said, facts_said, value_said, same_given}
use Rattle.pddl_models.proofs.AgreeLemmas.{Agrees, is_due, ground_fits, due_by}
use Rattle.pddl_models.proofs.BodyLemmas.{saying_head, atom_types, value_types, at_split}
use Rattle.pddl_models.proofs.DueLemmas.{head_due, round_more}
use Rattle.pddl_models.proofs.PlaceInLemmas.{name_same, name_self}
use Rattle.pddl_models.proofs.ProblemLemmas.{problem_agrees, no_params}
use Rattle.pddl_models.proofs.RepeatLemmas.{firsts_entries, map-firsts}
use Rattle.pddl_models.proofs.SayingLemmas.{atoms_more, atoms_same, values_more, values_same}
use Rattle.pddl_vocabulary.proofs.EntryLemmas.{all_map}

-- the name is at its place
abbrev stands : List Text → Text → Bool
stands names name = option_map_or (λ (t : Text). bytes_eq t name) (slice_get names (place_in names name)) false

stands_from : (names : List Text) (name : Text) → slice_get names (place_in names name) ≡ Some name → stands names name ≡ true
stands_from names name at = ap (λ o. option_map_or (λ (t : Text). bytes_eq t name) o false) at ∙ name_self name

stands_at : (names : List Text) (name : Text) → stands names name ≡ true → slice_get names (place_in names name) ≡ Some name
stands_at names name is = by (slice_get names (place_in names name)) refl is
  where
    by : (o : Option Text) → slice_get names (place_in names name) ≡ o → option_map_or (λ (t : Text). bytes_eq t name) o false ≡ true → slice_get names (place_in names name) ≡ Some name
    by None at is = absurd (true≢false (sym is))
    by (Some t) at is = at ∙ ap (λ (u : Text). Some u) (name_same t name is)

-- names that are at their places are the same where their places are
places_tell : (names : List Text) (a b : Text) → stands names a ≡ true → stands names b ≡ true → bytes_eq a b ≡ (place_in names a == place_in names b)
places_tell names a b p q =
    same_from_decides (bytes_eq a b) (place_in names a == place_in names b) (same_numbers-decides a b)
    (Decides-like (place_in names a == place_in names b)
    (λ same. same_some a b (sym (stands_at names a p) ∙ ap (slice_get names) same ∙ stands_at names b q)) (ap (place_in names)) (Decides-eqb (place_in names a) (place_in names b)))

lists_tell : (names as' bs : List Text) → list_all (stands names) as' ≡ true → list_all (stands names) bs ≡ true → pointwise bytes_eq as' bs ≡ same_numbers (map (place_in names) as') (map (place_in names) bs)
lists_tell names [] [] p q = refl
lists_tell names [] (b ∷ bs) p q = refl
lists_tell names (a ∷ as') [] p q = refl
lists_tell names (a ∷ as') (b ∷ bs) p q =
    (λ i. places_tell names a b (first_so (stands names a) (list_all (stands names) as') p) (first_so (stands names b) (list_all (stands names) bs) q) i
    && lists_tell names as' bs (second_so (stands names a) (list_all (stands names) as') p) (second_so (stands names b) (list_all (stands names) bs) q) i)

value_role : (r : Role) → said_roles.is_value r ≡ true → r ≡ role.Value
value_role role.Value is = refl
value_role _ is = absurd (true≢false (sym is))

problem_no_action : (r : Role) → is_of_problem r ≡ true → is_action_name r ≡ false
problem_no_action role.Action is = absurd (true≢false (sym is))
problem_no_action _ is = refl

module _ (domain : Vocabulary) (said : List Word) (words : Vocabulary) (more : SaysMore domain said words) (problem : AreOfProblem said) (calls : AreNoTotals said)
    (named : IsNamed (declared_by domain) said) where
  abbrev known : Declared
  known = declared (declared_by domain) said

  agrees : Agrees known words
  agrees = problem_agrees domain said words more problem

  -- the words before these name no action
  record Behind (before rest : List Word) : Type 0 where
    split : said ≡ before ++ rest
    round : action_words before ≡ before

  no_action : (before : List Word) (w : Word) (rest : List Word) → Behind before (w ∷ rest) → is_action w ≡ false
  no_action before w rest behind =
      action_name w ∙ problem_no_action w.role (at_split (λ (v : Word). IsTrue (is_of_problem v.role)) before w rest (subst (λ ws. AreOfProblem ws) behind.split problem))

  behind_more : (before : List Word) (w : Word) (rest : List Word) → Behind before (w ∷ rest) → Behind (before ++ w ∷ []) rest
  behind_more before w rest behind = record {
    split = behind.split ∙ sym (append_assoc before (w ∷ []) rest);
    round = round_more before w (no_action before w rest behind) ∙ ap (λ ws. ws ++ w ∷ []) behind.round;
  }

  record DueBehind (w : Word) (rest : List Word) : Type 0 where
    dues : List Text
    types : due_types known w ≡ Some dues
    fit : pointwise (is_due known []) (terms_behind rest) dues ≡ true

  due_behind : (before : List Word) (w : Word) (rest : List Word) → Behind before (w ∷ rest) → is_head w.role ≡ true → DueBehind w rest
  due_behind before w rest behind is =
      let due = head_due (declared_by domain) said named before w rest behind.split is in
      record {
        dues = due.dues;
        types = due.types;
        fit = ap (λ own. pointwise (is_due known own) (terms_behind rest) due.dues)
            (sym (ap (λ ws. action_params (ws ++ w ∷ rest)) behind.round ∙ sym (ap action_params behind.split) ∙ no_params said problem)) ∙ due.fit;
      }

  -- ---- facts

  abbrev fact_of : Signed → Bool
  fact_of atom = is_ground_atom words (ground_atom_said words atom)

  fact_fits : (due : Says) (before : List Word) (w : Word) (rest : List Word) → Behind before (w ∷ rest) → is_saying due w.role ≡ true → fact_of (w.text, terms_behind rest) ≡ true
  fact_fits due before w rest behind is =
      let here = due_behind before w rest behind (saying_head due w.role is) in
      ground_fits known words agrees words.predicates w.text here.dues (terms_behind rest) (agrees.predicates w.text here.dues (sym (atom_types known due w is) ∙ here.types)) here.fit

  facts_by : (due : Says) (before : List Word) (w : Word) (rest : List Word) → Behind before (w ∷ rest) → list_all fact_of (atoms_in due rest) ≡ true → (s : Bool) → is_saying due w.role ≡ s
      → list_all fact_of (atoms_in due (w ∷ rest)) ≡ true
  facts_by due before w rest behind later true is =
      ap (list_all fact_of) (atoms_more due w rest is) ∙ and_from (fact_of (w.text, terms_behind rest)) (list_all fact_of (atoms_in due rest)) (fact_fits due before w rest behind is) later
  facts_by due before w rest behind later false is = ap (list_all fact_of) (atoms_same due w rest is) ∙ later

  facts_fit : (due : Says) (rest before : List Word) → Behind before rest → list_all fact_of (atoms_in due rest) ≡ true
  facts_fit due [] before behind = refl
  facts_fit due (w ∷ rest) before behind = facts_by due before w rest behind (facts_fit due rest (before ++ w ∷ []) (behind_more before w rest behind)) (is_saying due w.role) refl

  start : Behind [] said
  start = record { split = refl; round = refl }

  pub said_facts : (due : Says) (facts : List GroundAtom) → facts ≡ facts_said due words said → are_ground_atoms words facts ≡ true
  said_facts due facts is =
      ap (are_ground_atoms words) is
      ∙ firsts_entries same_atom (is_ground_atom words) (map (ground_atom_said words) (atoms_in due said)) (all_map (is_ground_atom words) (ground_atom_said words) (atoms_in due said) (facts_fit due said [] start))

  -- ---- values

  -- a value of a function and of objects that have numbers
  abbrev is_told : Given → Bool
  is_told v = stands (words_named words.functions) v.0.0 && list_all (stands (names_of words.objects)) v.0.1

  abbrev value_of : Given → Bool
  value_of v = is_value words (value_said words v)

  object_stands : (text due : Text) → is_due known [] text due ≡ true → stands (names_of words.objects) text ≡ true
  object_stands text due is = by (is_variable text) (due_by known words agrees due (term_type known [] text) is)
    where
      by : (b : Bool) → (type : Text) × (cond b None (first_of known.objects text) ≡ Some type) × (is_below known.types type due ≡ true) → stands (names_of words.objects) text ≡ true
      by true found = absurd (cc (found.1))
      by false found =
          stands_from (names_of words.objects) text
          (slice_get-map entry_name words.objects (place_in (names_of words.objects) text) ∙ ap (option_map entry_name) (agrees.objects text found.0 found.1))

  objects_stand : (texts dues : List Text) → pointwise (is_due known []) texts dues ≡ true → list_all (stands (names_of words.objects)) texts ≡ true
  objects_stand [] dues fit = refl
  objects_stand (text ∷ texts) [] fit = absurd (true≢false (sym fit))
  objects_stand (text ∷ texts) (due ∷ dues) fit =
      and_from (stands (names_of words.objects) text) (list_all (stands (names_of words.objects)) texts)
      (object_stands text due (first_so (is_due known [] text due) (pointwise (is_due known []) texts dues) fit)) (objects_stand texts dues (second_so (is_due known [] text due) (pointwise (is_due known []) texts dues) fit))

  -- a value whose function is at this word
  record ToldHere (w : Word) (rest : List Word) : Type 0 where
    told : is_told ((w.text, terms_behind rest), number_behind rest) ≡ true
    value : value_of ((w.text, terms_behind rest), number_behind rest) ≡ true

  told_here : (before : List Word) (w : Word) (rest : List Word) → Behind before (w ∷ rest) → w.role ≡ role.Value → ToldHere w rest
  told_here before w rest behind is =
      let here = due_behind before w rest behind (ap is_head is) in
      let no_total : bytes_eq w.text (codes "total-cost") ≡ false =
      at_split (λ (v : Word). IsTrue (is_calling v.role) → bytes_eq v.text (codes "total-cost") ≡ false) before w rest (subst (λ ws. AreNoTotals ws) behind.split calls) (ap is_calling is) in
      let signed = agrees.functions w.text here.dues no_total (sym (value_types known w is) ∙ here.types) in
      record {
        told = and_from (stands (words_named words.functions) w.text) (list_all (stands (names_of words.objects)) (terms_behind rest))
            (stands_from (words_named words.functions) w.text
            (slice_get-map word_name words.functions (place_in (words_named words.functions) w.text) ∙ ap (option_map word_name) signed.at ∙ ap (λ (t : Text). Some t) signed.named))
            (objects_stand (terms_behind rest) here.dues here.fit);
        value = ground_fits known words agrees words.functions w.text here.dues (terms_behind rest) signed here.fit;
      }

  abbrev AllTold : List Given → Type 0
  AllTold values = (list_all is_told values ≡ true) × (list_all value_of values ≡ true)

  values_by : (before : List Word) (w : Word) (rest : List Word) → Behind before (w ∷ rest) → AllTold (values_in rest) → (s : Bool) → said_roles.is_value w.role ≡ s → AllTold (values_in (w ∷ rest))
  values_by before w rest behind later true is =
      let here = told_here before w rest behind (value_role w.role is) in
      let v : Given = ((w.text, terms_behind rest), number_behind rest) in (
        ap (list_all is_told) (values_more w rest is) ∙ and_from (is_told v) (list_all is_told (values_in rest)) here.told later.0,
        ap (list_all value_of) (values_more w rest is) ∙ and_from (value_of v) (list_all value_of (values_in rest)) here.value later.1,
      )
  values_by before w rest behind later false is = (ap (list_all is_told) (values_same w rest is) ∙ later.0, ap (list_all value_of) (values_same w rest is) ∙ later.1)

  values_told : (rest before : List Word) → Behind before rest → AllTold (values_in rest)
  values_told [] before behind = (refl, refl)
  values_told (w ∷ rest) before behind = values_by before w rest behind (values_told rest (before ++ w ∷ []) (behind_more before w rest behind)) (said_roles.is_value w.role) refl

  calls_tell : (v w : Given) → is_told v ≡ true → is_told w ≡ true → same_given v w ≡ same_key (value_said words v) (value_said words w)
  calls_tell v w p q =
      (λ i. places_tell (words_named words.functions) v.0.0 w.0.0 (first_so (stands (words_named words.functions) v.0.0) (list_all (stands (names_of words.objects)) v.0.1) p) (first_so (stands (words_named words.functions) w.0.0) (list_all (stands (names_of words.objects)) w.0.1) q) i
      && lists_tell (names_of words.objects) v.0.1 w.0.1 (second_so (stands (words_named words.functions) v.0.0) (list_all (stands (names_of words.objects)) v.0.1) p) (second_so (stands (words_named words.functions) w.0.0) (list_all (stands (names_of words.objects)) w.0.1) q) i)

  -- the first value of each function at objects, by names and by numbers
  pub said_values : map (value_said words) (firsts same_given (values_in said)) ≡ firsts same_key (map (value_said words) (values_in said))
  said_values = map-firsts (value_said words) is_told same_given same_key calls_tell (values_in said) (values_told said [] start).0

  pub values_fit : (values : List (ℕ × List ℕ × ℕ)) → values ≡ firsts same_key (map (value_said words) (values_in said)) → are_entries (is_value words) same_key values ≡ true
  values_fit values is =
      ap (are_entries (is_value words) same_key) is
      ∙ firsts_entries same_key (is_value words) (map (value_said words) (values_in said)) (all_map (is_value words) (value_said words) (values_in said) (values_told said [] start).1)
