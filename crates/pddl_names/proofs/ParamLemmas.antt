-- The places of an action's parameters are found word by word.
use Rattle.std.proofs.Common.{◌≡◌, ℕ, ◌+◌, ◌≤◌, suc, Bool, true, false, cond, Some, None, Option, List, [], ◌∷◌, length, drop, refl, sym, ap, ◌∙◌, arith}
use Rattle.std.specs.Prelude.{slice_get}
use Rattle.std.specs.Option.{is_some, option_map, option_or}
use Rattle.std.specs.Str.{bytes_eq}
use Rattle.std.proofs.lemmas.Bool.{true≢false}
use Rattle.std.proofs.lemmas.List.{drop_all, drop-drop}
use Rattle.mre_base.specs.declared.text.Text.{Text}
use Rattle.model_kit.proofs.Alike.{same_numbers-decides}
use Rattle.mre_base.proofs.Loops.{drop_item}
use Rattle.pddl_form.specs.declared.parts.Owner.TheVariants as owner
use Rattle.pddl_names.specs.declared.names.NameTable.{NameTable}
use Rattle.pddl_names.specs.declared.role.Role.{Role}
use Rattle.pddl_names.specs.declared.role.Role.TheVariants as role
use Rattle.pddl_names.specs.declared.role.Word.{Word}
use Rattle.pddl_names.specs.Listings.{Typed, first_of, with_param, action_params, type_behind}
use Rattle.pddl_names.specs.Numbers.{number_in, PutsNumber}
use Rattle.pddl_names.specs.Params.{is_action_name, is_param, param_at, first_param, AreParamPlaces}

action_is : (r : Role) → is_action_name r ≡ true → r ≡ role.Action
action_is role.Action is = refl
action_is _ is = absurd (true≢false (sym is))

param_is : (r : Role) → is_param r ≡ true → r ≡ role.Variable owner.Action
param_is (role.Variable owner.Action) is = refl
param_is (role.Variable owner.Predicate) is = absurd (true≢false (sym is))
param_is (role.Variable owner.Function) is = absurd (true≢false (sym is))
param_is _ is = absurd (true≢false (sym is))

other_is : (r : Role) → is_action_name r ≡ false → is_param r ≡ false → (place : ℕ) (same : Bool) (more : Option ℕ) → param_at r place same more ≡ more
other_is role.Action a p place same more = absurd (true≢false a)
other_is (role.Variable owner.Action) a p place same more = absurd (true≢false p)
other_is (role.Variable owner.Predicate) a p place same more = refl
other_is (role.Variable owner.Function) a p place same more = refl
other_is _ a p place same more = refl

or_none : (o : Option ℕ) → option_or o None ≡ o
or_none None = refl
or_none (Some n) = refl

module _ (words : List Word) (start : ℕ) where
  -- what a name has is in the table, or it is found from this place on
  abbrev pub ParamsBefore : ℕ → NameTable → Type 0
  ParamsBefore place table = (name : Text) → first_param start (drop start words) name ≡ option_or (number_in table name) (first_param place (drop place words) name)

  pub params_start : (table : NameTable) → ((name : Text) → number_in table name ≡ None) → ParamsBefore start table
  params_start table none name = sym (ap (λ o. option_or o (first_param start (drop start words) name)) (none name))

  pub params_end : (place : ℕ) (table : NameTable) → length words ≤ place → ParamsBefore place table → AreParamPlaces words start table
  params_end place table past before name =
      sym (before name ∙ ap (λ ws. option_or (number_in table name) (first_param place ws name)) (drop_all place words past) ∙ or_none (number_in table name))

  module _ (place : ℕ) (w : Word) (at : slice_get words place ≡ Some w) where
    abbrev later : Text → Option ℕ
    later name = first_param (place + 1) (drop (place + 1) words) name

    step : (table : NameTable) (r : Role) → w.role ≡ r → ParamsBefore place table → (name : Text)
        → first_param start (drop start words) name ≡ option_or (number_in table name) (param_at r place (bytes_eq w.text name) (later name))
    step table r is before name =
        before name
        ∙ ap (λ ws. option_or (number_in table name) (first_param place ws name)) (drop_item words place w at)
        ∙ ap (λ q. option_or (number_in table name) (param_at q place (bytes_eq w.text name) (later name))) is

    pub params_stop : (table : NameTable) → is_action_name w.role ≡ true → ParamsBefore place table → AreParamPlaces words start table
    params_stop table is before name = sym (step table role.Action (action_is w.role is) before name ∙ or_none (number_in table name))

    pub params_pass : (table : NameTable) → is_action_name w.role ≡ false → is_param w.role ≡ false → ParamsBefore place table → ParamsBefore (place + 1) table
    params_pass table a p before name =
        step table w.role refl before name ∙ ap (λ o. option_or (number_in table name) o) (other_is w.role a p place (bytes_eq w.text name) (later name))

    put_by : (old : NameTable) (name : Text) (b : Bool) → bytes_eq w.text name ≡ b → number_in old w.text ≡ None
        → option_or (number_in old name) (cond b (Some place) (later name)) ≡ option_or (cond b (Some place) (number_in old name)) (later name)
    put_by old name true is none =
        let same : w.text ≡ name = (same_numbers-decides w.text name).0 is in
        ap (λ o. option_or o (Some place)) (ap (number_in old) (sym same) ∙ none)
    put_by old name false is none = refl

    pub params_put : (old new : NameTable) → is_param w.role ≡ true → number_in old w.text ≡ None → PutsNumber old new w.text place → ParamsBefore place old → ParamsBefore (place + 1) new
    params_put old new is none puts before name =
        step old (role.Variable owner.Action) (param_is w.role is) before name ∙ put_by old name (bytes_eq w.text name) refl none ∙ ap (λ o. option_or o (later name)) (sym (puts name))

    kept_by : (old : NameTable) (name : Text) (first : ℕ) (b : Bool) → bytes_eq w.text name ≡ b → number_in old w.text ≡ Some first
        → option_or (number_in old name) (cond b (Some place) (later name)) ≡ option_or (number_in old name) (later name)
    kept_by old name first true is some =
        let same : w.text ≡ name = (same_numbers-decides w.text name).0 is in
        let had : number_in old name ≡ Some first = ap (number_in old) (sym same) ∙ some in
        ap (λ o. option_or o (Some place)) had ∙ sym (ap (λ o. option_or o (later name)) had)
    kept_by old name first false is some = refl

    pub params_kept : (table : NameTable) (first : ℕ) → is_param w.role ≡ true → number_in table w.text ≡ Some first → ParamsBefore place table → ParamsBefore (place + 1) table
    params_kept table first is some before name =
        step table (role.Variable owner.Action) (param_is w.role is) before name ∙ kept_by table name first (bytes_eq w.text name) refl some

pub some_there : (o : Option ℕ) → is_some o ≡ true → (n : ℕ) × (o ≡ Some n)
some_there None is = absurd (true≢false (sym is))
some_there (Some n) is = (n, refl)

pub none_there : (o : Option ℕ) → is_some o ≡ false → o ≡ None
none_there None is = refl
none_there (Some n) is = absurd (true≢false is)

-- ---- what is declared first of a parameter, by the place where it is declared first

module _ (type_of : ℕ → Text) where
  some_by : (b : Bool) (type : Text) (from : ℕ) (more : Option Text) (later : Option ℕ) → type ≡ type_of from → more ≡ option_map type_of later
      → cond b (Some type) more ≡ option_map type_of (cond b (Some from) later)
  some_by true type from more later here is = ap (λ (t : Text). Some t) here
  some_by false type from more later here is = is

  role_by : (r : Role) (text type name : Text) (from : ℕ) (more : List Typed) (later : Option ℕ) → type ≡ type_of from → first_of more name ≡ option_map type_of later
      → first_of (with_param r (text, type) more) name ≡ option_map type_of (param_at r from (bytes_eq text name) later)
  role_by (role.Variable owner.Action) text type name from more later here is = some_by (bytes_eq text name) type from (first_of more name) later here is
  role_by (role.Variable owner.Predicate) text type name from more later here is = is
  role_by (role.Variable owner.Function) text type name from more later here is = is
  role_by role.Action text type name from more later here is = refl
  role_by _ text type name from more later here is = is

module _ (words : List Word) (name : Text) where
  param_from : (ws : List Word) (from : ℕ) → ((i : ℕ) → drop i ws ≡ drop (from + i) words)
      → first_of (action_params ws) name ≡ option_map (λ place. type_behind (drop (place + 1) words)) (first_param from ws name)
  param_from [] from there = refl
  param_from (w ∷ rest) from there =
      role_by (λ place. type_behind (drop (place + 1) words)) w.role w.text (type_behind rest) name from (action_params rest) (first_param (from + 1) rest name)
      (ap type_behind (there 1))
      (param_from rest (from + 1) (λ i. there (suc i) ∙ (let grows : from + suc i ≡ from + 1 + i = omega arith in ap (λ n. drop n words) grows)))

  pub first_param_is : (start : ℕ) → first_of (action_params (drop start words)) name ≡ option_map (λ place. type_behind (drop (place + 1) words)) (first_param start (drop start words) name)
  first_param_is start = param_from (drop start words) start (λ i. drop-drop i start words)
