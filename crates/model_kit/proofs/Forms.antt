-- How a printed form grows by an argument.
use Rattle.std.proofs.Common.{◌≡◌, ℕ, ◌+◌, ◌<◌, Some, List, [], ◌∷◌, ◌++◌, length, get_or, take, map, sym, ◌∙◌, ap}
use Rattle.std.proofs.lemmas.List.{take_more, map-append, flat_map_more}
use Rattle.std.specs.Prelude.{codes, slice_get}
use Rattle.std.proofs.lemmas.Option.{slice_get_within, get_or_from_slice_get}
use Rattle.model_kit.specs.Printed.{args_form}

-- one more argument at the end
pub args_form_more : {X : Type 0} (name : X → List ℕ) (begin old new : List ℕ) (xs : List X) (i : ℕ) (d : X) → i < length xs
    → old ≡ begin ++ args_form (map name (take i xs)) → new ≡ old ++ (codes " " ++ name (get_or xs i d)) → new ≡ begin ++ args_form (map name (take (i + 1) xs))
args_form_more name begin old new xs i d lt before now =
    now
    ∙ ap (λ text. text ++ (codes " " ++ name (get_or xs i d))) before
    ∙ flat_map_more (λ arg. codes " " ++ arg) begin (map name (take i xs)) (name (get_or xs i d))
    ∙ ap (λ args. begin ++ args_form args) (sym (map-append name (take i xs) (get_or xs i d ∷ [])) ∙ ap (map name) (sym (take_more xs i d lt)))

-- likewise where the argument is the item at the place
pub args_form_item : {X : Type 0} (name : X → List ℕ) (begin old new : List ℕ) (xs : List X) (i : ℕ) (x : X) → slice_get xs i ≡ Some x
    → old ≡ begin ++ args_form (map name (take i xs)) → new ≡ old ++ (codes " " ++ name x) → new ≡ begin ++ args_form (map name (take (i + 1) xs))
args_form_item name begin old new xs i x at before now =
    args_form_more name begin old new xs i x (slice_get_within xs i x at) before
    (now ∙ ap (λ y. old ++ (codes " " ++ name y)) (sym (get_or_from_slice_get xs i x x at)))
