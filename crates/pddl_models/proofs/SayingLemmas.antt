-- What is said from a word on, by the word and what is said after it.
use Rattle.std.proofs.Common.{◌≡◌, ℕ, ◌+◌, ◌||◌, Bool, true, false, cond, Some, None, Option, List, [], ◌∷◌, ◌++◌, map, drop, refl, sym, ap, subst, ◌∙◌, append_assoc}
use Rattle.std.specs.Prelude.{not, slice_get, unwrap_or, take_while, fold, IfSome}
use Rattle.std.specs.List.{position_from}
use Rattle.std.specs.Option.{option_and_then, option_map}
use Rattle.std.specs.Str.{bytes_eq}
use Rattle.pddl_form.specs.Numbers.{number}
use Rattle.std.proofs.lemmas.Bool.{true≢false}
use Rattle.std.proofs.lemmas.List.{append-nil, map-append}
use Rattle.std.proofs.lemmas.List.Sums.{take_while-cons}
use Rattle.mre_base.specs.declared.text.Text.{Text}
use Rattle.model_kit.specs.declared.model.CostExpr.{CostExpr}
use Rattle.model_kit.specs.declared.model.CostExpr.TheVariants.{Number, Call}
use Rattle.mre_base.proofs.Loops.{drop_item}
use Rattle.pddl_text.specs.declared.place.Place.{Place}
use Rattle.pddl_form.specs.declared.parts.Owner.TheVariants as owner
use Rattle.pddl_names.specs.declared.names.NameTable.{NameTable}
use Rattle.pddl_names.specs.declared.role.Role.{Role}
use Rattle.pddl_names.specs.declared.role.Role.TheVariants as role
use Rattle.pddl_names.specs.declared.role.Says.{Says}
use Rattle.pddl_names.specs.declared.role.Word.{Word}
use Rattle.pddl_models.specs.Unrepeated.{with_first}
use Rattle.pddl_names.specs.Listings.{Typed, Signed, is_term, past_terms, number_behind, Given, with_given, values_in, terms_behind, with_param, action_params, type_behind}
use Rattle.pddl_names.specs.Naming.{is_action}
use Rattle.pddl_names.specs.Numbers.{IsTableOf, entry_name}
use Rattle.pddl_names.specs.Params.{is_action_name, is_param}
use Rattle.pddl_names.proofs.ParamTypes.{action_name}
use Rattle.pddl_models.specs.Saying.{is_saying, is_value, is_costing}
use Rattle.pddl_models.specs.WordTables.{ArePlacesOf}
use Rattle.pddl_vocabulary.specs.Values.{ActionWords, with_action, actions_in, place_in}
use Rattle.pddl_models.specs.Says.{with_atom, atoms_in, own_words, param_names, term_said, cost_at, increase_in, minimizes, has_metric}

-- ---- one more entry at the end, and no more

pub put_more : {X Y : Type 0} (f : X → Y) (old new : List Y) (y : Y) (x : X) (now later : List X) (all : List Y)
    → new ≡ old ++ y ∷ [] → y ≡ f x → now ≡ x ∷ later → old ++ map f now ≡ all → new ++ map f later ≡ all
put_more f old new y x now later all puts is step before =
    ap (λ ys. ys ++ map f later) puts ∙ append_assoc old (y ∷ []) (map f later) ∙ ap (λ z. old ++ z ∷ map f later) is ∙ sym (ap (λ xs. old ++ map f xs) step) ∙ before

pub put_end : {X Y : Type 0} (f : X → Y) (old : List Y) (now : List X) (all : List Y) → now ≡ [] → old ++ map f now ≡ all → old ≡ all
put_end f old now all none before = sym (append-nil old) ∙ sym (ap (λ xs. old ++ map f xs) none) ∙ before

-- ---- the words of a row that pass a test

while_true : {X : Type 0} (p : X → Bool) (x : X) (xs : List X) → p x ≡ true → take_while p (x ∷ xs) ≡ x ∷ take_while p xs
while_true p x xs is = take_while-cons p x xs ∙ ap (λ b. cond b (x ∷ take_while p xs) []) is

while_false : {X : Type 0} (p : X → Bool) (x : X) (xs : List X) → p x ≡ false → take_while p (x ∷ xs) ≡ []
while_false p x xs is = take_while-cons p x xs ∙ ap (λ b. cond b (x ∷ take_while p xs) []) is

pub terms_more : (w : Word) (rest : List Word) → is_term w ≡ true → terms_behind (w ∷ rest) ≡ w.text ∷ terms_behind rest
terms_more w rest is = ap (λ ws. map (λ (v : Word). v.text) ws) (while_true is_term w rest is)

pub terms_end : (w : Word) (rest : List Word) → is_term w ≡ false → terms_behind (w ∷ rest) ≡ []
terms_end w rest is = ap (λ ws. map (λ (v : Word). v.text) ws) (while_false is_term w rest is)

-- ---- the words of an action

pub own_more : (w : Word) (rest : List Word) → is_action w ≡ false → own_words (w ∷ rest) ≡ w ∷ own_words rest
own_more w rest is = while_true (λ v. not (is_action v)) w rest (ap not is)

pub own_end : (w : Word) (rest : List Word) → is_action w ≡ true → own_words (w ∷ rest) ≡ []
own_end w rest is = while_false (λ v. not (is_action v)) w rest (ap not is)

-- no term is the name of an action
own_role : (text : Text) (at : Place) (r : Role) → is_term (record { role = r; text = text; at = at }) ≡ true → is_action (record { role = r; text = text; at = at }) ≡ false
own_role text at role.Action is = absurd (true≢false (sym is))
own_role text at _ is = refl

term_is_own : (w : Word) → is_term w ≡ true → is_action w ≡ false
term_is_own w is = own_role w.text w.at w.role is

own_by : (w : Word) (rest : List Word) → terms_behind (own_words rest) ≡ terms_behind rest → (b : Bool) → is_term w ≡ b → (a : Bool) → is_action w ≡ a
    → terms_behind (own_words (w ∷ rest)) ≡ terms_behind (w ∷ rest)
own_by w rest later true is true act = absurd (true≢false (sym act ∙ term_is_own w is))
own_by w rest later true is false act = ap terms_behind (own_more w rest act) ∙ terms_more w (own_words rest) is ∙ ap (λ ts. w.text ∷ ts) later ∙ sym (terms_more w rest is)
own_by w rest later false is true act = ap terms_behind (own_end w rest act) ∙ sym (terms_end w rest is)
own_by w rest later false is false act = ap terms_behind (own_more w rest act) ∙ terms_end w (own_words rest) is ∙ sym (terms_end w rest is)

-- the terms after a word of an action are all its own
pub own_terms : (words : List Word) → terms_behind (own_words words) ≡ terms_behind words
own_terms [] = refl
own_terms (w ∷ rest) = own_by w rest (own_terms rest) (is_term w) refl (is_action w) refl

-- ---- atoms

saying_step : (due : Says) (r : Role) (atom : Signed) (more : List Signed) → is_saying due r ≡ true → with_atom due r atom more ≡ atom ∷ more
saying_step due (role.Head s) atom more is = ap (λ b. cond b (atom ∷ more) more) is
saying_step due _ atom more is = absurd (true≢false (sym is))

silent_step : (due : Says) (r : Role) (atom : Signed) (more : List Signed) → is_saying due r ≡ false → with_atom due r atom more ≡ more
silent_step due (role.Head s) atom more is = ap (λ b. cond b (atom ∷ more) more) is
silent_step due _ atom more is = refl

pub atoms_more : (due : Says) (w : Word) (rest : List Word) → is_saying due w.role ≡ true → atoms_in due (w ∷ rest) ≡ (w.text, terms_behind rest) ∷ atoms_in due rest
atoms_more due w rest is = saying_step due w.role (w.text, terms_behind rest) (atoms_in due rest) is

pub atoms_same : (due : Says) (w : Word) (rest : List Word) → is_saying due w.role ≡ false → atoms_in due (w ∷ rest) ≡ atoms_in due rest
atoms_same due w rest is = silent_step due w.role (w.text, terms_behind rest) (atoms_in due rest) is

-- after a word of an action
pub own_atoms_more : (due : Says) (w : Word) (rest : List Word) → is_action_name w.role ≡ false → is_saying due w.role ≡ true
    → atoms_in due (own_words (w ∷ rest)) ≡ (w.text, terms_behind rest) ∷ atoms_in due (own_words rest)
own_atoms_more due w rest own is =
    ap (atoms_in due) (own_more w rest (action_name w ∙ own)) ∙ atoms_more due w (own_words rest) is
    ∙ ap (λ (ts : List Text). let atom : Signed = (w.text, ts) in atom ∷ atoms_in due (own_words rest)) (own_terms rest)

pub own_atoms_same : (due : Says) (w : Word) (rest : List Word) → is_action_name w.role ≡ false → is_saying due w.role ≡ false
    → atoms_in due (own_words (w ∷ rest)) ≡ atoms_in due (own_words rest)
own_atoms_same due w rest own is = ap (atoms_in due) (own_more w rest (action_name w ∙ own)) ∙ atoms_same due w (own_words rest) is

pub own_atoms_end : (due : Says) (w : Word) (rest : List Word) → is_action_name w.role ≡ true → atoms_in due (own_words (w ∷ rest)) ≡ []
own_atoms_end due w rest is = ap (atoms_in due) (own_end w rest (action_name w ∙ is))

-- ---- one more entry, unless it was there before

module _ {X Y : Type 0} (same : Y → Y → Bool) (f : X → Y) (all : List Y) where
  pub first_more : (old new : List Y) (y : Y) (x : X) (now later : List X)
      → new ≡ with_first same old y → y ≡ f x → now ≡ x ∷ later → fold (with_first same) old (map f now) ≡ all → fold (with_first same) new (map f later) ≡ all
  first_more old new y x now later puts is step before =
      ap (λ ys. fold (with_first same) ys (map f later)) (puts ∙ ap (with_first same old) is) ∙ sym (ap (λ xs. fold (with_first same) old (map f xs)) step) ∙ before

  pub first_same : (old : List Y) (now later : List X) → now ≡ later → fold (with_first same) old (map f now) ≡ all → fold (with_first same) old (map f later) ≡ all
  first_same old now later step before = sym (ap (λ xs. fold (with_first same) old (map f xs)) step) ∙ before

  pub first_end : (old : List Y) (now : List X) → now ≡ [] → fold (with_first same) old (map f now) ≡ all → old ≡ all
  first_end old now step before = sym (ap (λ xs. fold (with_first same) old (map f xs)) step) ∙ before

-- ---- values

pub number_more : (w : Word) (rest : List Word) → is_term w ≡ true → number_behind (w ∷ rest) ≡ number_behind rest
number_more w rest is = ap (λ b. unwrap_or (option_and_then (λ (v : Word). number v.text) (cond (not b) (Some w) (past_terms rest))) 0) is

pub number_here : (w : Word) (rest : List Word) → is_term w ≡ false → number_behind (w ∷ rest) ≡ unwrap_or (number w.text) 0
number_here w rest is = ap (λ b. unwrap_or (option_and_then (λ (v : Word). number v.text) (cond (not b) (Some w) (past_terms rest))) 0) is

value_step : (r : Role) (given : Given) (more : List Given) → is_value r ≡ true → with_given r given more ≡ given ∷ more
value_step role.Value given more is = refl
value_step _ given more is = absurd (true≢false (sym is))

no_value_step : (r : Role) (given : Given) (more : List Given) → is_value r ≡ false → with_given r given more ≡ more
no_value_step role.Value given more is = absurd (true≢false is)
no_value_step _ given more is = refl

pub values_more : (w : Word) (rest : List Word) → is_value w.role ≡ true → values_in (w ∷ rest) ≡ ((w.text, terms_behind rest), number_behind rest) ∷ values_in rest
values_more w rest is = value_step w.role ((w.text, terms_behind rest), number_behind rest) (values_in rest) is

pub values_same : (w : Word) (rest : List Word) → is_value w.role ≡ false → values_in (w ∷ rest) ≡ values_in rest
values_same w rest is = no_value_step w.role ((w.text, terms_behind rest), number_behind rest) (values_in rest) is

-- ---- actions

act_step : (r : Role) (entry : ActionWords) (more : List ActionWords) → is_action_name r ≡ true → with_action r entry more ≡ entry ∷ more
act_step role.Action entry more is = refl
act_step _ entry more is = absurd (true≢false (sym is))

no_act_step : (r : Role) (entry : ActionWords) (more : List ActionWords) → is_action_name r ≡ false → with_action r entry more ≡ more
no_act_step role.Action entry more is = absurd (true≢false is)
no_act_step _ entry more is = refl

pub actions_more : (w : Word) (rest : List Word) → is_action_name w.role ≡ true → actions_in (w ∷ rest) ≡ (w.text, rest) ∷ actions_in rest
actions_more w rest is = act_step w.role (w.text, rest) (actions_in rest) is

pub actions_same : (w : Word) (rest : List Word) → is_action_name w.role ≡ false → actions_in (w ∷ rest) ≡ actions_in rest
actions_same w rest is = no_act_step w.role (w.text, rest) (actions_in rest) is

-- ---- increases

module _ (functions objects params : List Text) where
  abbrev increase : List Word → Option CostExpr
  increase words = increase_in functions objects params (own_words words)

  at_role : (text : Text) (at : Place) (r : Role) (rest : List Word) (more : Option CostExpr) → is_costing r ≡ false
      → cost_at functions objects params (record { role = r; text = text; at = at }) rest more ≡ more
  at_role text at role.Numeral rest more is = absurd (true≢false is)
  at_role text at role.Cost rest more is = absurd (true≢false is)
  at_role text at _ rest more is = refl

  pub increase_end : (w : Word) (rest : List Word) → is_action_name w.role ≡ true → increase (w ∷ rest) ≡ None
  increase_end w rest is = ap (increase_in functions objects params) (own_end w rest (action_name w ∙ is))

  pub increase_more : (w : Word) (rest : List Word) → is_action_name w.role ≡ false → is_costing w.role ≡ false → increase (w ∷ rest) ≡ increase rest
  increase_more w rest own is =
      ap (increase_in functions objects params) (own_more w rest (action_name w ∙ own)) ∙ at_role w.text w.at w.role (own_words rest) (increase rest) is

  numeral_at : (text : Text) (at : Place) (r : Role) (rest : List Word) (more : Option CostExpr) → r ≡ role.Numeral
      → cost_at functions objects params (record { role = r; text = text; at = at }) rest more ≡ option_map Number (number text)
  numeral_at text at role.Numeral rest more is = refl
  numeral_at text at _ rest more is = absurd (cc)

  call_at : (text : Text) (at : Place) (r : Role) (rest : List Word) (more : Option CostExpr) → r ≡ role.Cost
      → cost_at functions objects params (record { role = r; text = text; at = at }) rest more ≡ Some (Call (place_in functions text) (map (term_said objects params) (terms_behind rest)))
  call_at text at role.Cost rest more is = refl
  call_at text at _ rest more is = absurd (cc)

  pub increase_numeral : (w : Word) (rest : List Word) → w.role ≡ role.Numeral → increase (w ∷ rest) ≡ option_map Number (number w.text)
  increase_numeral w rest is =
      ap (increase_in functions objects params) (own_more w rest (action_name w ∙ ap is_action_name is)) ∙ numeral_at w.text w.at w.role (own_words rest) (increase rest) is

  pub increase_call : (w : Word) (rest : List Word) → w.role ≡ role.Cost
      → increase (w ∷ rest) ≡ Some (Call (place_in functions w.text) (map (term_said objects params) (terms_behind rest)))
  increase_call w rest is =
      ap (increase_in functions objects params) (own_more w rest (action_name w ∙ ap is_action_name is)) ∙ call_at w.text w.at w.role (own_words rest) (increase rest) is
      ∙ ap (λ ts. Some (Call (place_in functions w.text) (map (term_said objects params) ts))) (own_terms rest)

-- ---- the metric

pub metric_here : (w : Word) (rest : List Word) → minimizes w.role ≡ true → has_metric (w ∷ rest) ≡ true
metric_here w rest is = ap (λ b. b || has_metric rest) is

pub metric_later : (w : Word) (rest : List Word) → minimizes w.role ≡ false → has_metric (w ∷ rest) ≡ has_metric rest
metric_later w rest is = ap (λ b. b || has_metric rest) is

-- ---- parameters

param_step : (r : Role) (entry : Typed) (more : List Typed) → is_param r ≡ true → with_param r entry more ≡ entry ∷ more
param_step (role.Variable owner.Action) entry more is = refl
param_step (role.Variable owner.Predicate) entry more is = absurd (true≢false (sym is))
param_step (role.Variable owner.Function) entry more is = absurd (true≢false (sym is))
param_step _ entry more is = absurd (true≢false (sym is))

no_param_step : (r : Role) (entry : Typed) (more : List Typed) → is_action_name r ≡ false → is_param r ≡ false → with_param r entry more ≡ more
no_param_step (role.Variable owner.Action) entry more a p = absurd (true≢false p)
no_param_step (role.Variable owner.Predicate) entry more a p = refl
no_param_step (role.Variable owner.Function) entry more a p = refl
no_param_step role.Action entry more a p = absurd (true≢false a)
no_param_step _ entry more a p = refl

action_step : (r : Role) (entry : Typed) (more : List Typed) → is_action_name r ≡ true → with_param r entry more ≡ []
action_step role.Action entry more is = refl
action_step _ entry more is = absurd (true≢false (sym is))

pub params_more : (w : Word) (rest : List Word) → is_param w.role ≡ true → param_names (w ∷ rest) ≡ w.text ∷ param_names rest
params_more w rest is = ap (λ ps. map (λ (p : Typed). p.0) ps) (param_step w.role (w.text, type_behind rest) (action_params rest) is)

pub params_same : (w : Word) (rest : List Word) → is_action_name w.role ≡ false → is_param w.role ≡ false → param_names (w ∷ rest) ≡ param_names rest
params_same w rest a p = ap (λ ps. map (λ (q : Typed). q.0) ps) (no_param_step w.role (w.text, type_behind rest) (action_params rest) a p)

pub params_end : (w : Word) (rest : List Word) → is_action_name w.role ≡ true → param_names (w ∷ rest) ≡ []
params_end w rest is = ap (λ ps. map (λ (p : Typed). p.0) ps) (action_step w.role (w.text, type_behind rest) (action_params rest) is)

-- ---- tables

position_map : {X : Type 0} (name_of : X → Text) (name : Text) (from : ℕ) (entries : List X)
    → position_from (λ entry. bytes_eq (name_of entry) name) from entries ≡ position_from (λ other. bytes_eq other name) from (map name_of entries)
position_map name_of name from [] = refl
position_map name_of name from (x ∷ xs) = ap (λ o. cond (bytes_eq (name_of x) name) (Some from) o) (position_map name_of name (from + 1) xs)

-- a table of entries has the places of their names
pub table_places : {X : Type 0} (name_of : X → Text) (entries : List X) (table : NameTable) → IsTableOf name_of entries table → ArePlacesOf (map name_of entries) table
table_places name_of entries table is name = ap (λ o. unwrap_or o 0) (is name ∙ position_map name_of name 0 entries)

-- ---- the names of parameters, one by one

module _ (said : List Word) (place : ℕ) (w : Word) (at : slice_get said place ≡ Some w) (old : List (Text × ℕ)) (all : List Text) where
  abbrev Before : Type 0
  Before = map entry_name old ++ param_names (drop place said) ≡ all

  step : Before → map entry_name old ++ param_names (w ∷ drop (place + 1) said) ≡ all
  step before = sym (ap (λ ws. map entry_name old ++ param_names ws) (drop_item said place w at)) ∙ before

  pub names_end : is_action_name w.role ≡ true → Before → map entry_name old ≡ all
  names_end is before = sym (append-nil (map entry_name old)) ∙ sym (ap (λ ns. map entry_name old ++ ns) (params_end w (drop (place + 1) said) is)) ∙ step before

  pub names_same : is_action_name w.role ≡ false → is_param w.role ≡ false → Before → map entry_name old ++ param_names (drop (place + 1) said) ≡ all
  names_same a p before = sym (ap (λ ns. map entry_name old ++ ns) (params_same w (drop (place + 1) said) a p)) ∙ step before

  pub names_more : (new : List (Text × ℕ)) (entry : Text × ℕ) → new ≡ old ++ entry ∷ [] → entry.0 ≡ w.text → is_param w.role ≡ true → Before
      → map entry_name new ++ param_names (drop (place + 1) said) ≡ all
  names_more new entry puts is p before =
      ap (λ es. map entry_name es ++ param_names (drop (place + 1) said)) puts
      ∙ ap (λ ns. ns ++ param_names (drop (place + 1) said)) (map-append entry_name old (entry ∷ []))
      ∙ append_assoc (map entry_name old) (entry.0 ∷ []) (param_names (drop (place + 1) said))
      ∙ ap (λ n. map entry_name old ++ n ∷ param_names (drop (place + 1) said)) is
      ∙ sym (ap (λ ns. map entry_name old ++ ns) (params_more w (drop (place + 1) said) p))
      ∙ step before

-- ---- roles that a match leaves

pub not_act : (r : Role) → (r ≡ role.Action → ⊥) → is_action_name r ≡ false
not_act role.Action other = absurd (other refl)
not_act _ other = refl

pub not_cost : (r : Role) → (r ≡ role.Numeral → ⊥) → (r ≡ role.Cost → ⊥) → is_costing r ≡ false
not_cost role.Numeral numeral cost = absurd (numeral refl)
not_cost role.Cost numeral cost = absurd (cost refl)
not_cost _ numeral cost = refl
