-- Lists: the item at a place, and those before and after it.
use Rattle.std.proofs.Common.{◌≡◌, ℕ, zero, suc, ◌+◌, List, [], ◌∷◌, ◌++◌, take, drop, map, Some, All, sym, ap, ◌∙◌, subst}
use Rattle.std.specs.Prelude.{Contains, slice_get, Option, None, IfNone, IfSome}
use Rattle.std.proofs.lemmas.List.{take_more, take-append-drop}
use Rattle.std.proofs.lemmas.List.Elements.{Contains-get_or}
use Rattle.std.proofs.lemmas.Option.{slice_get_within, get_or_from_slice_get}
use Rattle.std.proofs.lemmas.Option.{none-some}
use Rattle.mre_base.proofs.Loops.{take_item}
use Rattle.mre_base.proofs.Options.{same_some}

-- the items up to a place, the item there, and the rest
pub split_at : {X : Type 0} (xs : List X) (i : ℕ) (x : X) → slice_get xs i ≡ Some x → xs ≡ (take i xs ++ x ∷ []) ++ drop (i + 1) xs
split_at xs i x e = sym (take-append-drop (i + 1) xs) ∙ ap (λ ys. ys ++ drop (i + 1) xs) (take_item xs i x e)

-- the item at a place is unique
pub same_item : {X : Type 0} (xs : List X) (i j : ℕ) (x y : X) → slice_get xs i ≡ Some x → slice_get xs j ≡ Some y → i ≡ j → x ≡ y
same_item xs i j x y at at' e = same_some x y (sym at ∙ ap (slice_get xs) e ∙ at')

pub mapped_at : {X Y : Type 0} (f : X → Y) (xs : List X) (i : ℕ) (x : X) → slice_get xs i ≡ Some x → slice_get (map f xs) i ≡ Some (f x)
mapped_at f [] i x e = absurd (none-some x e)
mapped_at f (y ∷ xs) zero x e = ap (λ z. Some (f z)) (same_some y x e)
mapped_at f (y ∷ xs) (suc i) x e = mapped_at f xs i x e

-- ---- what follows where there is nothing, or something
pub none_then : {X : Type 0} {P Q : Type 0} (r : Option X) → (P → Q) → IfNone r P → IfNone r Q
none_then None f p = f p
none_then (Some x) f p = p

pub some_then : {X : Type 0} {P Q : X → Type 0} (r : Option X) → ((x : X) → P x → Q x) → IfSome r P → IfSome r Q
some_then None f p = p
some_then (Some x) f p = f x p
