-- The terms and the parameters after each word are counted from the last word to the first.
use Rattle.std.proofs.Common.{◌≡◌, ℕ, ◌+◌, ◌-◌, ◌<◌, ◌≤◌, suc, Bool, true, false, cond, List, ◌∷◌, length, take, map, refl, sym, ap, ◌∙◌, arith}
use Rattle.std.specs.Prelude.{if◌then◌else◌}
use Rattle.std.specs.List.{prefix_len}
use Rattle.pddl_names.specs.declared.role.Role.{Role}
use Rattle.pddl_names.specs.declared.role.Role.TheVariants as role
use Rattle.pddl_names.specs.declared.role.Word.{Word}
use Rattle.pddl_names.specs.Groups.{own_count}
use Rattle.pddl_names.specs.Listings.{Typed, is_term, terms_behind, type_behind, own_params, with_own}

abbrev pub count_behind : List Word → ℕ
count_behind words = length (terms_behind words)

step_by : (b : Bool) (w : Word) (rest : List Word) → length (map (λ (v : Word). v.text) (take (cond b (1 + prefix_len is_term rest) 0) (w ∷ rest))) ≡ (if b then count_behind rest + 1 else 0)
step_by true w rest =
    let grows : 1 + prefix_len is_term rest ≡ suc (prefix_len is_term rest) = omega arith in
    let more : suc (count_behind rest) ≡ count_behind rest + 1 = omega arith in
    ap (λ n. length (map (λ (v : Word). v.text) (take n (w ∷ rest)))) grows ∙ more
step_by false w rest = refl

pub count_step : (w : Word) (rest : List Word) → count_behind (w ∷ rest) ≡ (if is_term w then count_behind rest + 1 else 0)
count_step w rest = step_by (is_term w) w rest

pub count_term : (w : Word) (rest : List Word) (behind : ℕ) → is_term w ≡ true → behind ≡ count_behind rest → behind + 1 ≡ count_behind (w ∷ rest)
count_term w rest behind is known = ap (λ n. n + 1) known ∙ sym (count_step w rest ∙ ap (λ b. if b then count_behind rest + 1 else 0) is)

pub count_other : (w : Word) (rest : List Word) → is_term w ≡ false → 0 ≡ count_behind (w ∷ rest)
count_other w rest is = sym (count_step w rest ∙ ap (λ b. if b then count_behind rest + 1 else 0) is)

abbrev pub params_behind : List Word → ℕ
params_behind words = length (own_params words)

own_by : (r : Role) (entry : Typed) (more : List Typed) → own_count r (length more) ≡ length (with_own r entry more)
own_by (role.Variable o) entry more = let grows : length more + 1 ≡ suc (length more) = omega arith in grows
own_by role.Dash entry more = refl
own_by role.VariableType entry more = refl
own_by _ entry more = refl

pub param_step : (w : Word) (rest : List Word) (behind : ℕ) → behind ≡ params_behind rest → own_count w.role behind ≡ params_behind (w ∷ rest)
param_step w rest behind known = ap (own_count w.role) known ∙ own_by w.role (w.text, type_behind rest) (own_params rest)

own_grows : (r : Role) (behind : ℕ) → own_count r behind ≤ behind + 1
own_grows (role.Variable o) behind = omega arith
own_grows role.Dash behind = omega arith
own_grows role.VariableType behind = omega arith
own_grows _ behind = omega arith

pub param_room : (w : Word) (behind next place size : ℕ) → next ≡ own_count w.role behind → behind + place ≤ size → 0 < place → next + (place - 1) ≤ size
param_room w behind next place size is room positive =
    let grows = own_grows w.role behind in
    omega (arith, is, grows, room)
