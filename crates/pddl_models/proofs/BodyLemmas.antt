-- In well-named words the bodies of the actions fit their parameters.
use Rattle.std.proofs.Common.{◌≡◌, ℕ, ◌&&◌, Bool, true, false, Some, None, Option, List, [], ◌∷◌, ◌++◌, map, refl, sym, ap, subst, ◌∙◌, append_assoc}
use Rattle.std.specs.Prelude.{codes, All, IsTrue}
use Rattle.std.specs.List.{list_all}
use Rattle.std.specs.Option.{option_map}
use Rattle.std.specs.Str.{bytes_eq}
use Rattle.std.specs.Cmp.Lexicographic.{pointwise}
use Rattle.std.proofs.lemmas.Bool.{true≢false, and_from}
use Rattle.std.proofs.lemmas.List.Elements.{All-head, All-tail}
use Rattle.mre_base.specs.declared.text.Text.{Text}
use Rattle.mre_base.proofs.Tests.{all_four}
use Rattle.model_kit.specs.declared.model.CostExpr.{CostExpr}
use Rattle.model_kit.specs.declared.model.CostExpr.TheVariants.{Number, Call}
use Rattle.model_kit.specs.declared.vocabulary.Signature.{Signature}
use Rattle.model_kit.specs.declared.vocabulary.Vocabulary.{Vocabulary}
use Rattle.model_kit.specs.Same.{same_schema_atom}
use Rattle.model_kit.specs.Features.{are_schema_atoms, is_cost}
use Rattle.model_kit.specs.Vocabulary.{is_schema_atom}
use Rattle.pddl_form.specs.Numbers.{number}
use Rattle.pddl_models.specs.declared.body.Body.{Body}
use Rattle.pddl_names.specs.declared.role.Role.{Role}
use Rattle.pddl_names.specs.declared.role.Role.TheVariants as role
use Rattle.pddl_names.specs.declared.role.Says.{Says}
use Rattle.pddl_names.specs.declared.role.Says.TheVariants as says
use Rattle.pddl_names.specs.declared.role.Word.{Word}
use Rattle.pddl_models.specs.Bodies.{is_increase, is_body, are_bodies}
use Rattle.pddl_names.specs.Heads.{is_head}
use Rattle.pddl_names.specs.Listings.{Typed, Declared, nothing, declared, first_of, terms_behind, action_params, types_of}
use Rattle.pddl_names.specs.Naming.{is_action, action_words, due_types, IsNamed}
use Rattle.pddl_names.specs.Params.{is_action_name}
use Rattle.pddl_names.proofs.ParamTypes.{action_name}
use Rattle.pddl_models.specs.Saying.{is_saying, is_costing, is_calling, AreNoTotals}
use Rattle.pddl_vocabulary.specs.Values.{actions_in, action_said, type_names, place_in, names_of, words_named, SaysWords}
use Rattle.pddl_models.specs.Says.{atoms_in, own_words, param_names, schema_atom_said, term_said, increase_in, said_atoms, body_said}
use Rattle.pddl_models.proofs.AgreeLemmas.{type_place, Agrees, is_due, head_fits}
use Rattle.pddl_models.proofs.DomainLemmas.{domain_agrees, names_are}
use Rattle.pddl_models.proofs.DueLemmas.{head_due, round_more, round_here}
use Rattle.pddl_models.proofs.RepeatLemmas.{firsts_entries}
use Rattle.pddl_models.proofs.SayingLemmas.{own_atoms_more, own_atoms_same, own_atoms_end, increase_end, increase_more, increase_numeral, increase_call, actions_more, actions_same}
use Rattle.pddl_vocabulary.proofs.EntryLemmas.{all_map}

-- ---- heads by their roles

pub saying_head : (due : Says) (r : Role) → is_saying due r ≡ true → is_head r ≡ true
saying_head due (role.Head s) is = refl
saying_head due _ is = absurd (true≢false (sym is))

saying_list : (known : Declared) (due : Says) (w : Word) (r : Role) → w.role ≡ r → is_saying due r ≡ true → due_types known w ≡ first_of known.predicates w.text
saying_list known due w (role.Head s) at is = ap (λ q. due_types known (record w { role = q })) at
saying_list known due w _ at is = absurd (true≢false (sym is))

-- the types that the terms of an atom, and of the function of a cost, must have
pub atom_types : (known : Declared) (due : Says) (w : Word) → is_saying due w.role ≡ true → due_types known w ≡ first_of known.predicates w.text
atom_types known due w is = saying_list known due w w.role refl is

pub cost_types : (known : Declared) (w : Word) → w.role ≡ role.Cost → due_types known w ≡ first_of known.functions w.text
cost_types known w at = ap (λ q. due_types known (record w { role = q })) at

pub value_types : (known : Declared) (w : Word) → w.role ≡ role.Value → due_types known w ≡ first_of known.functions w.text
value_types known w at = ap (λ q. due_types known (record w { role = q })) at

-- what holds of all words holds of the one at a split
pub at_split : {X : Type 0} (P : X → Type 0) (before : List X) (x : X) (rest : List X) → All P (before ++ x ∷ rest) → P x
at_split P [] x rest all = All-head P x rest all
at_split P (y ∷ before) x rest all = at_split P before x rest (All-tail P y (before ++ x ∷ rest) all)

-- ---- the words of one action

module _ (base : Declared) (said : List Word) (words : Vocabulary) (named : IsNamed base said) (agrees : Agrees (declared base said) words) (calls : AreNoTotals said) (behind : List Word) where
  abbrev known : Declared
  known = declared base said

  abbrev own : List Typed
  own = action_params behind

  abbrev params : List ℕ
  params = map (type_place words) (types_of own)

  -- the words before these, of which the last are the action's
  record Inside (before rest : List Word) : Type 0 where
    split : said ≡ before ++ rest
    round : action_words before ++ rest ≡ behind

  inside_more : (before : List Word) (w : Word) (rest : List Word) → is_action w ≡ false → Inside before (w ∷ rest) → Inside (before ++ w ∷ []) rest
  inside_more before w rest is inside = record {
    split = inside.split ∙ sym (append_assoc before (w ∷ []) rest);
    round = ap (λ ws. ws ++ rest) (round_more before w is) ∙ append_assoc (action_words before) (w ∷ []) rest ∙ inside.round;
  }

  -- a head inside the action
  record DueInside (w : Word) (rest : List Word) : Type 0 where
    dues : List Text
    types : due_types known w ≡ Some dues
    fit : pointwise (is_due known own) (terms_behind rest) dues ≡ true

  due_inside : (before : List Word) (w : Word) (rest : List Word) → Inside before (w ∷ rest) → is_head w.role ≡ true → DueInside w rest
  due_inside before w rest inside is =
      let due = head_due base said named before w rest inside.split is in
      record { dues = due.dues; types = due.types; fit = ap (λ ws. pointwise (is_due known (action_params ws)) (terms_behind rest) due.dues) (sym inside.round) ∙ due.fit }

  abbrev atom_of : Text × List Text → Bool
  atom_of atom = is_schema_atom words params (schema_atom_said (words_named words.predicates) (names_of words.objects) (param_names behind) atom)

  atom_fits : (due : Says) (before : List Word) (w : Word) (rest : List Word) → Inside before (w ∷ rest) → is_saying due w.role ≡ true → atom_of (w.text, terms_behind rest) ≡ true
  atom_fits due before w rest inside is =
      let here = due_inside before w rest inside (saying_head due w.role is) in
      head_fits known words agrees own words.predicates w.text here.dues (terms_behind rest) (agrees.predicates w.text here.dues (sym (atom_types known due w is) ∙ here.types)) here.fit

  atoms_by : (due : Says) (before : List Word) (w : Word) (rest : List Word) → Inside before (w ∷ rest)
      → (is_action w ≡ false → list_all atom_of (atoms_in due (own_words rest)) ≡ true)
      → (a s : Bool) → is_action_name w.role ≡ a → is_saying due w.role ≡ s → list_all atom_of (atoms_in due (own_words (w ∷ rest))) ≡ true
  atoms_by due before w rest inside later true s act is = ap (list_all atom_of) (own_atoms_end due w rest act)
  atoms_by due before w rest inside later false true act is =
      ap (list_all atom_of) (own_atoms_more due w rest act is)
      ∙ and_from (atom_of (w.text, terms_behind rest)) (list_all atom_of (atoms_in due (own_words rest))) (atom_fits due before w rest inside is) (later (action_name w ∙ act))
  atoms_by due before w rest inside later false false act is = ap (list_all atom_of) (own_atoms_same due w rest act is) ∙ later (action_name w ∙ act)

  atoms_fit : (due : Says) (rest before : List Word) → Inside before rest → list_all atom_of (atoms_in due (own_words rest)) ≡ true
  atoms_fit due [] before inside = refl
  atoms_fit due (w ∷ rest) before inside =
      atoms_by due before w rest inside (λ is. atoms_fit due rest (before ++ w ∷ []) (inside_more before w rest is inside)) (is_action_name w.role) (is_saying due w.role) refl refl

  said_fit : (due : Says) (before : List Word) → Inside before behind → are_schema_atoms words params (said_atoms due words behind) ≡ true
  said_fit due before inside =
      firsts_entries same_schema_atom (is_schema_atom words params) (map (schema_atom_said (words_named words.predicates) (names_of words.objects) (param_names behind)) (atoms_in due (own_words behind)))
      (all_map (is_schema_atom words params) (schema_atom_said (words_named words.predicates) (names_of words.objects) (param_names behind)) (atoms_in due (own_words behind)) (atoms_fit due behind before inside))

  -- ---- its increase

  abbrev increase : List Word → Option CostExpr
  increase rest = increase_in (words_named words.functions) (names_of words.objects) (param_names behind) (own_words rest)

  number_fits : (o : Option ℕ) → is_increase words params (option_map Number o) ≡ true
  number_fits None = refl
  number_fits (Some n) = refl

  call_fits : (before : List Word) (w : Word) (rest : List Word) → Inside before (w ∷ rest) → w.role ≡ role.Cost
      → is_cost words params (Call (place_in (words_named words.functions) w.text) (map (term_said (names_of words.objects) (param_names behind)) (terms_behind rest))) ≡ true
  call_fits before w rest inside is =
      let here = due_inside before w rest inside (ap is_head is) in
      let no_total : bytes_eq w.text (codes "total-cost") ≡ false =
      at_split (λ (v : Word). IsTrue (is_calling v.role) → bytes_eq v.text (codes "total-cost") ≡ false) before w rest (subst (λ ws. AreNoTotals ws) inside.split calls) (ap is_calling is) in
      head_fits known words agrees own words.functions w.text here.dues (terms_behind rest) (agrees.functions w.text here.dues no_total (sym (cost_types known w is) ∙ here.types)) here.fit

  increase_by : (before : List Word) (w : Word) (rest : List Word) → Inside before (w ∷ rest) → (is_action w ≡ false → is_increase words params (increase rest) ≡ true)
      → (r : Role) → w.role ≡ r → is_increase words params (increase (w ∷ rest)) ≡ true
  increase_by before w rest inside later role.Action is =
      ap (is_increase words params) (increase_end (words_named words.functions) (names_of words.objects) (param_names behind) w rest (ap is_action_name is))
  increase_by before w rest inside later role.Numeral is =
      ap (is_increase words params) (increase_numeral (words_named words.functions) (names_of words.objects) (param_names behind) w rest is) ∙ number_fits (number w.text)
  increase_by before w rest inside later role.Cost is =
      ap (is_increase words params) (increase_call (words_named words.functions) (names_of words.objects) (param_names behind) w rest is) ∙ call_fits before w rest inside is
  increase_by before w rest inside later _ is =
      ap (is_increase words params) (increase_more (words_named words.functions) (names_of words.objects) (param_names behind) w rest (ap is_action_name is) (ap is_costing is))
      ∙ later (action_name w ∙ ap is_action_name is)

  increase_fits : (rest before : List Word) → Inside before rest → is_increase words params (increase rest) ≡ true
  increase_fits [] before inside = refl
  increase_fits (w ∷ rest) before inside = increase_by before w rest inside (λ is. increase_fits rest (before ++ w ∷ []) (inside_more before w rest is inside)) w.role refl

  -- the body of the action fits its parameters
  body_fits : (name : Text) (action : Signature) → action.params ≡ params → (before : List Word) → Inside before behind → is_body words (body_said words (name, behind)) action ≡ true
  body_fits name action is before inside =
      ap (λ ps. are_schema_atoms words ps (said_atoms says.Needed words behind) && are_schema_atoms words ps (said_atoms says.Added words behind) && are_schema_atoms words ps (said_atoms says.Deleted words behind) && is_increase words ps (increase behind)) is
      ∙ all_four (are_schema_atoms words params (said_atoms says.Needed words behind)) (are_schema_atoms words params (said_atoms says.Added words behind)) (are_schema_atoms words params (said_atoms says.Deleted words behind)) (is_increase words params (increase behind))
      (said_fit says.Needed before inside) (said_fit says.Added before inside) (said_fit says.Deleted before inside) (increase_fits behind before inside)

-- ---- all actions

module _ (said : List Word) (words : Vocabulary) (says : SaysWords said words) (named : IsNamed nothing said) (calls : AreNoTotals said) where
  abbrev names : List Text
  names = type_names said

  bodies_by : (before : List Word) (w : Word) (rest : List Word) → said ≡ before ++ w ∷ rest
      → pointwise (is_body words) (map (body_said words) (actions_in rest)) (map (action_said names) (actions_in rest)) ≡ true
      → (a : Bool) → is_action_name w.role ≡ a
      → pointwise (is_body words) (map (body_said words) (actions_in (w ∷ rest))) (map (action_said names) (actions_in (w ∷ rest))) ≡ true
  bodies_by before w rest split later true act =
      ap (λ acts. pointwise (is_body words) (map (body_said words) acts) (map (action_said names) acts)) (actions_more w rest act)
      ∙ and_from (is_body words (body_said words (w.text, rest)) (action_said names (w.text, rest))) (pointwise (is_body words) (map (body_said words) (actions_in rest)) (map (action_said names) (actions_in rest)))
      (body_fits nothing said words named (domain_agrees said words says) calls rest w.text (action_said names (w.text, rest))
      (ap (λ ns. map (place_in ns) (types_of (action_params rest))) (sym (names_are said words says))) (before ++ w ∷ [])
      (record { split = split ∙ sym (append_assoc before (w ∷ []) rest); round = ap (λ ws. ws ++ rest) (round_here before w (action_name w ∙ act)) })) later
  bodies_by before w rest split later false act =
      ap (λ acts. pointwise (is_body words) (map (body_said words) acts) (map (action_said names) acts)) (actions_same w rest act) ∙ later

  bodies_fit : (rest before : List Word) → said ≡ before ++ rest → pointwise (is_body words) (map (body_said words) (actions_in rest)) (map (action_said names) (actions_in rest)) ≡ true
  bodies_fit [] before split = refl
  bodies_fit (w ∷ rest) before split =
      bodies_by before w rest split (bodies_fit rest (before ++ w ∷ []) (split ∙ sym (append_assoc before (w ∷ []) rest))) (is_action_name w.role) refl

  -- the bodies that the words say are those of the vocabulary's actions
  pub said_bodies : (bodies : List Body) → bodies ≡ map (body_said words) (actions_in said) → are_bodies words bodies ≡ true
  said_bodies bodies is = (λ i. pointwise (is_body words) (is i) (says.actions i)) ∙ bodies_fit said [] refl
