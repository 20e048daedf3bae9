-- What listed things, tuples of them and lists of flags contain.
use Rattle.std.proofs.Common.{◌≡◌, ℕ, ◌<◌, zero, suc, Bool, true, false, List, [], ◌∷◌, length, get_or, map, refl, sym, ap, subst, ◌∙◌, arith, zero-add}
use Rattle.std.specs.Prelude.{Contains, slice_get}
use Rattle.std.specs.Bool.{Decides, beq}
use Rattle.std.specs.List.{flat_map, range_with_len}
use Rattle.std.specs.Option.{option_map_or}
use Rattle.std.specs.Cmp.Lexicographic.{pointwise, pointwise_decides}
use Rattle.std.proofs.lemmas.Bool.{true≢false}
use Rattle.std.proofs.lemmas.List.FromFn.{get_or-range_with_len, length-range_with_len}
use Rattle.std.proofs.lemmas.List.Elements.{Contains-append_left, Contains-append_right}
use Rattle.model_kit.specs.declared.vocabulary.Vocabulary.{Vocabulary}
use Rattle.model_kit.specs.declared.action.GroundAction.{GroundAction}
use Rattle.model_kit.specs.Vocabulary.{is_object_of, IsGroundAction}
use Rattle.model_kit.proofs.Fits.{signature_listed, object_listed, each_fits}
use Rattle.model_kit.proofs.TypeLemmas.{entry_passes}
use Rattle.model_kit.proofs.ActionLemmas.{fit_count}
use Rattle.mre_base.proofs.Listed.{map-contains}

pub range_contains : (n k : ℕ) → k < n → Contains (range_with_len 0 n) k
range_contains n k lt =
    let is : get_or (range_with_len 0 n) k k ≡ k = get_or-range_with_len 0 n k k lt ∙ zero-add k in
    (k, rw (length-range_with_len 0 n) lt, is)

pub flat_contains : {X Y : Type 0} (f : X → List Y) (xs : List X) (x : X) (y : Y) → Contains xs x → Contains (f x) y → Contains (flat_map f xs) y
flat_contains f [] x y at there = absurd (omega (arith, at.1))
flat_contains f (z ∷ xs) x y (zero, lt, is) there = Contains-append_left (f z) (flat_map f xs) y (subst (λ v. Contains (f v) y) (sym is) there)
flat_contains f (z ∷ xs) x y (suc k, lt, is) there = Contains-append_right (f z) (flat_map f xs) y (flat_contains f xs x y (k, omega arith, is) there)

-- all lists of n things from a list
abbrev pub tuples : {X : Type 0} → List X → ℕ → List (List X)
tuples things zero = [] ∷ []
tuples things (suc n) = flat_map (λ x. map (λ xs. x ∷ xs) (tuples things n)) things

pub tuples_all : {X : Type 0} (things : List X) (xs : List X) → ((k : ℕ) (d : X) → k < length xs → Contains things (get_or xs k d)) → Contains (tuples things (length xs)) xs
tuples_all things [] each = (0, omega arith, refl)
tuples_all things (x ∷ xs) each =
    flat_contains (λ y. map (λ ys. y ∷ ys) (tuples things (length xs))) things x (x ∷ xs) (each 0 x (omega arith))
    (map-contains (λ ys. x ∷ ys) (tuples things (length xs)) xs (tuples_all things xs (λ k d lt. each (suc k) d (omega arith))))

-- ---- lists of flags

pub beq-decides : (a b : Bool) → Decides (beq a b) (a ≡ b)
beq-decides true true = (λ e. refl, λ e. refl)
beq-decides true false = (λ e. absurd (true≢false (sym e)), λ e. absurd (true≢false e))
beq-decides false true = (λ e. absurd (true≢false (sym e)), λ e. absurd (true≢false (sym e)))
beq-decides false false = (λ e. refl, λ e. refl)

abbrev pub same_flags : List Bool → List Bool → Bool
same_flags = pointwise beq

pub same_flags-decides : (xs ys : List Bool) → Decides (same_flags xs ys) (xs ≡ ys)
same_flags-decides = pointwise_decides beq-decides

abbrev pub both_flags : List Bool
both_flags = true ∷ false ∷ []

is_flag : (b : Bool) → Contains both_flags b
is_flag true = (0, omega arith, refl)
is_flag false = (1, omega arith, refl)

pub flags_all : (fs : List Bool) → Contains (tuples both_flags (length fs)) fs
flags_all fs = tuples_all both_flags fs (λ k d lt. is_flag (get_or fs k d))

-- ---- ground actions

-- the parameters of the action with a number
abbrev pub params_of : Vocabulary → ℕ → List ℕ
params_of words n = option_map_or (λ s. s.params) (slice_get words.actions n) []

-- each action with as many objects as it has parameters; the ground actions are among them
abbrev pub all_actions : Vocabulary → List GroundAction
all_actions words =
    flat_map (λ n. map (λ objects. let action : GroundAction = record { schema = n; objects = objects } in action) (tuples (range_with_len 0 (length words.objects)) (length (params_of words n))))
    (range_with_len 0 (length words.actions))

pub ground_listed : (words : Vocabulary) (action : GroundAction) → IsGroundAction words action → Contains (all_actions words) action
ground_listed words action fits =
    let at = entry_passes (λ s. pointwise (is_object_of words) action.objects s.params) words.actions action.schema fits in
    let number = signature_listed (is_object_of words) words.actions action.schema action.objects fits in
    let params : params_of words action.schema ≡ at.0.params = ap (λ o. option_map_or (λ s. s.params) o []) at.1 in
    let count : length action.objects ≡ length (params_of words action.schema) = fit_count (is_object_of words) action.objects at.0.params at.2 ∙ ap (λ ps. length ps) (sym params) in
    let each = λ (k d : ℕ) (lt : k < length action.objects).
    let typed = each_fits (is_object_of words) action.objects at.0.params at.2 k d lt in
    range_contains (length words.objects) (get_or action.objects k d) (object_listed words (get_or action.objects k d) typed.0 typed.1) in
    let tuple = subst (λ n. Contains (tuples (range_with_len 0 (length words.objects)) n) action.objects) count (tuples_all (range_with_len 0 (length words.objects)) action.objects each) in
    flat_contains (λ n. map (λ objects. let made : GroundAction = record { schema = n; objects = objects } in made) (tuples (range_with_len 0 (length words.objects)) (length (params_of words n))))
    (range_with_len 0 (length words.actions)) action.schema action (range_contains (length words.actions) action.schema number)
    (map-contains (λ objects. let made : GroundAction = record { schema = action.schema; objects = objects } in made) (tuples (range_with_len 0 (length words.objects)) (length (params_of words action.schema))) action.objects tuple)
