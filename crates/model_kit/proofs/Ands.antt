-- Several tests at once.
use Rattle.std.proofs.Common.{◌≡◌, ◌&&◌, Bool, true}
use Rattle.std.proofs.lemmas.Bool.{and_parts, and_from}
use Rattle.mre_base.proofs.Tests.{all_four}

pub and3 : (a b c : Bool) → (a && b && c) ≡ true → (a ≡ true) × (b ≡ true) × (c ≡ true)
and3 a b c e = let l = and_parts (a && b) c e in let k = and_parts a b l.0 in (k.0, k.1, l.1)

pub and4 : (a b c d : Bool) → (a && b && c && d) ≡ true → (a ≡ true) × (b ≡ true) × (c ≡ true) × (d ≡ true)
and4 a b c d e = let l = and_parts (a && b && c) d e in let k = and3 a b c l.0 in (k.0, k.1, k.2, l.1)

pub and5 : (a b c d f : Bool) → (a && b && c && d && f) ≡ true → (a ≡ true) × (b ≡ true) × (c ≡ true) × (d ≡ true) × (f ≡ true)
and5 a b c d f e = let l = and_parts (a && b && c && d) f e in let k = and4 a b c d l.0 in (k.0, k.1, k.2, k.3, l.1)

pub and6 : (a b c d f g : Bool) → (a && b && c && d && f && g) ≡ true → (a ≡ true) × (b ≡ true) × (c ≡ true) × (d ≡ true) × (f ≡ true) × (g ≡ true)
and6 a b c d f g e = let l = and_parts (a && b && c && d && f) g e in let k = and5 a b c d f l.0 in (k.0, k.1, k.2, k.3, k.4, l.1)

pub all3 : (a b c : Bool) → a ≡ true → b ≡ true → c ≡ true → (a && b && c) ≡ true
all3 a b c p q r = and_from (a && b) c (and_from a b p q) r

pub all5 : (a b c d f : Bool) → a ≡ true → b ≡ true → c ≡ true → d ≡ true → f ≡ true → (a && b && c && d && f) ≡ true
all5 a b c d f p q r s t = and_from (a && b && c && d) f (all_four a b c d p q r s) t

pub all6 : (a b c d f g : Bool) → a ≡ true → b ≡ true → c ≡ true → d ≡ true → f ≡ true → g ≡ true → (a && b && c && d && f && g) ≡ true
all6 a b c d f g p q r s t u = and_from (a && b && c && d && f) g (all5 a b c d f p q r s t) u
