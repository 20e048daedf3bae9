-- The first parameter of a name, and its type.
use Rattle.std.proofs.Common.{◌≡◌, ℕ, ◌+◌, ◌<◌, ◌≤◌, ◌&&◌, ◌||◌, suc, Bool, true, false, cond, Some, Option, List, [], ◌∷◌, ◌++◌, length, take, drop, length-drop, refl, sym, ap, ◌∙◌, arith}
use Rattle.std.specs.Prelude.{nat_lt, slice_get, if◌then◌else◌}
use Rattle.std.specs.List.{list_any, between}
use Rattle.std.specs.Option.{option_map}
use Rattle.std.specs.Str.{bytes_eq}
use Rattle.std.proofs.lemmas.Bool.{true≢false}
use Rattle.std.proofs.lemmas.Bool.Decides.{Decides-ltb}
use Rattle.std.proofs.lemmas.List.{drop-drop}
use Rattle.std.proofs.lemmas.List.Edits.{length-between}
use Rattle.std.proofs.lemmas.Option.{slice_get_within}
use Rattle.mre_base.specs.declared.text.Text.{Text}
use Rattle.mre_base.proofs.Options.{same_some}
use Rattle.mre_base.proofs.Tests.{same_test, or_not_second}
use Rattle.model_kit.proofs.Alike.{same_numbers-decides}
use Rattle.pddl_form.specs.declared.parts.Owner.TheVariants as owner
use Rattle.pddl_text.specs.declared.place.Place.{Place}
use Rattle.pddl_names.specs.declared.role.Role.{Role}
use Rattle.pddl_names.specs.declared.role.Role.TheVariants as role
use Rattle.pddl_names.specs.declared.role.Word.{Word}
use Rattle.pddl_names.specs.Listings.{Typed, Declared, first_of, action_params, with_param, type_behind}
use Rattle.pddl_names.specs.Naming.{is_action, same_sort, is_again, action_words, params_round, is_variable, term_type}
use Rattle.pddl_names.specs.Params.{is_action_name, is_param, param_at, first_param}
use Rattle.pddl_names.specs.Tables.{first_before}
use Rattle.pddl_names.proofs.RoundLemmas.{between_split}

-- ---- the type of a parameter

typed_by : (r : Role) (e : Typed) (name : Text) (from : ℕ) (g : ℕ → Text) (params : List Typed) (later : Option ℕ) → g from ≡ e.1 → first_of params name ≡ option_map g later
    → first_of (with_param r e params) name ≡ option_map g (param_at r from (bytes_eq e.0 name) later)
typed_by (role.Variable owner.Action) e name from g params later here e' = both (bytes_eq e.0 name)
  where
    both : (b : Bool) → cond b (Some e.1) (first_of params name) ≡ option_map g (cond b (Some from) later)
    both true = ap (λ (t : Text). Some t) (sym here)
    both false = e'
typed_by (role.Variable owner.Predicate) e name from g params later here e' = e'
typed_by (role.Variable owner.Function) e name from g params later here e' = e'
typed_by role.Action e name from g params later here e' = refl
typed_by _ e name from g params later here e' = e'

pub param_types : (ws : List Word) (from : ℕ) (g : ℕ → Text) (name : Text) → ((k : ℕ) → g (from + k) ≡ type_behind (drop (k + 1) ws)) → first_of (action_params ws) name ≡ option_map g (first_param from ws name)
param_types [] from g name types = refl
param_types (w ∷ ws) from g name types =
    let here : from ≡ from + 0 = omega arith in
    typed_by w.role (w.text, type_behind ws) name from g (action_params ws) (first_param (from + 1) ws name) (ap g here ∙ types 0)
    (param_types ws (from + 1) g name (λ k.
    let next : from + 1 + k ≡ from + (k + 1) = omega arith in
    let more : k + 1 + 1 ≡ suc (k + 1) = omega arith in
    ap g next ∙ types (k + 1) ∙ ap (λ n. type_behind (drop n (w ∷ ws))) more))

bound_by : (r : Role) (from size p : ℕ) (b : Bool) (later : Option ℕ) → (later ≡ Some p → p < from + 1 + size) → param_at r from b later ≡ Some p → p < from + suc size
bound_by (role.Variable owner.Action) from size p true later rest e = let same : from ≡ p = same_some from p e in omega arith
bound_by (role.Variable owner.Action) from size p false later rest e = let lt = rest e in omega arith
bound_by (role.Variable owner.Predicate) from size p b later rest e = let lt = rest e in omega arith
bound_by (role.Variable owner.Function) from size p b later rest e = let lt = rest e in omega arith
bound_by role.Action from size p b later rest e = absurd (cc)
bound_by _ from size p b later rest e = let lt = rest e in omega arith

pub param_bound : (ws : List Word) (from : ℕ) (name : Text) (p : ℕ) → first_param from ws name ≡ Some p → p < from + length ws
param_bound [] from name p e = absurd (cc)
param_bound (w ∷ ws) from name p e = bound_by w.role from (length ws) p (bytes_eq w.text name) (first_param (from + 1) ws name) (param_bound ws (from + 1) name p) e

-- ---- a parameter again

name_by : (r : Role) (text : Text) (at : Place) → is_action (record { role = r; text = text; at = at }) ≡ is_action_name r
name_by role.Action text at = refl
name_by _ text at = refl

pub action_name : (w : Word) → is_action w ≡ is_action_name w.role
action_name w = name_by w.role w.text w.at

pub param_role : (r : Role) → is_param r ≡ true → r ≡ role.Variable owner.Action
param_role (role.Variable owner.Action) is = refl
param_role (role.Variable owner.Predicate) is = absurd (true≢false (sym is))
param_role (role.Variable owner.Function) is = absurd (true≢false (sym is))
param_role _ is = absurd (true≢false (sym is))

before_by : (r : Role) (b : Bool) (from size : ℕ) (later : Option ℕ) (more : Bool) → is_action_name r ≡ false → first_before later (from + suc size) ≡ more
    → first_before (param_at r from b later) (from + suc size) ≡ ((same_sort r (role.Variable owner.Action) && b) || more)
before_by (role.Variable owner.Action) true from size later more a e = (Decides-ltb from (from + suc size)).1 (omega arith)
before_by (role.Variable owner.Action) false from size later more a e = e
before_by (role.Variable owner.Predicate) b from size later more a e = e
before_by (role.Variable owner.Function) b from size later more a e = e
before_by role.Action b from size later more a e = absurd (true≢false a)
before_by _ b from size later more a e = e

not_first : (a b : Bool) → (a || b) ≡ false → a ≡ false
not_first true b e = absurd (true≢false e)
not_first false b e = refl

module _ (w : Word) (rest : List Word) (is : w.role ≡ role.Variable owner.Action) where
  here : (from : ℕ) → first_param from (w ∷ rest) w.text ≡ Some from
  here from =
      (λ i. param_at (is i) from (bytes_eq w.text w.text) (first_param (from + 1) rest w.text))
      ∙ ap (λ b. cond b (Some from) (first_param (from + 1) rest w.text)) ((same_numbers-decides w.text w.text).1 refl)

  none_before : (from : ℕ) → nat_lt from (from + 0) ≡ false
  none_before from = same_test (nat_lt from (from + 0)) false (λ e. let lt = (Decides-ltb from (from + 0)).0 e in absurd (omega (arith, lt))) (λ e. absurd (true≢false (sym e)))

  pub again_from : (mid : List Word) (from : ℕ) → list_any is_action mid ≡ false
      → first_before (first_param from (mid ++ w ∷ rest) w.text) (from + length mid) ≡ list_any (λ (v : Word). same_sort v.role (role.Variable owner.Action) && bytes_eq v.text w.text) mid
  again_from [] from none = ap (λ o. first_before o (from + 0)) (here from) ∙ none_before from
  again_from (v ∷ mid) from none =
      let next : from + suc (length mid) ≡ from + 1 + length mid = omega arith in
      before_by v.role (bytes_eq v.text w.text) from (length mid) (first_param (from + 1) (mid ++ w ∷ rest) w.text)
      (list_any (λ (u : Word). same_sort u.role (role.Variable owner.Action) && bytes_eq u.text w.text) mid)
      (sym (action_name v) ∙ not_first (is_action v) (list_any is_action mid) none)
      (ap (first_before (first_param (from + 1) (mid ++ w ∷ rest) w.text)) next ∙ again_from mid (from + 1) (or_not_second (is_action v) (list_any is_action mid) none))

-- ---- the words of an action, after its name

module _ (words : List Word) (start place : ℕ) (w : Word) (within : start ≤ place) (at : slice_get words place ≡ Some w)
    (words_are : action_words (take place words) ≡ between start place words) where
  round_is : action_words (take place words) ++ w ∷ drop (place + 1) words ≡ drop start words
  round_is = ap (λ ws. ws ++ w ∷ drop (place + 1) words) words_are ∙ sym (between_split words start place w within at)

  pub round_type : (name : Text) → first_of (params_round (take place words) w (drop (place + 1) words)) name ≡ option_map (λ p. type_behind (drop (p + 1) words)) (first_param start (drop start words) name)
  round_type name =
      ap (λ ws. first_of (action_params ws) name) round_is
      ∙ param_types (drop start words) start (λ p. type_behind (drop (p + 1) words)) name
      (λ k. let same : start + k + 1 ≡ start + (k + 1) = omega arith in ap (λ n. type_behind (drop n words)) same ∙ ap type_behind (sym (drop-drop (k + 1) start words)))

  pub round_bound : (name : Text) (p : ℕ) → first_param start (drop start words) name ≡ Some p → p < length words
  round_bound name p e =
      let lt = param_bound (drop start words) start name p e in
      let size = length-drop start words in
      let inside = slice_get_within words place w at in
      omega (arith, lt, size, inside)

  pub round_again : w.role ≡ role.Variable owner.Action → list_any is_action (between start place words) ≡ false → first_before (first_param start (drop start words) w.text) place ≡ is_again (action_words (take place words)) w
  round_again is none =
      let reach : start + length (between start place words) ≡ place =
      (let inside = slice_get_within words place w at in let size = length-between words start place (omega (arith, inside)) in omega (arith, size)) in
      ap (λ ws. first_before (first_param start ws w.text) place) (between_split words start place w within at)
      ∙ ap (first_before (first_param start (between start place words ++ w ∷ drop (place + 1) words) w.text)) (sym reach)
      ∙ again_from w (drop (place + 1) words) is (between start place words) start none
      ∙ (λ i. list_any (λ (v : Word). same_sort v.role (sym is i) && bytes_eq v.text w.text) (sym words_are i))

-- the type of a term that is a parameter, or one that isn't
pub term_param : (known : Declared) (params : List Typed) (text : Text) (o : Option Text) → is_variable text ≡ true → first_of params text ≡ o → term_type known params text ≡ o
term_param known params text o is e = ap (λ b. if b then first_of params text else first_of known.objects text) is ∙ e
