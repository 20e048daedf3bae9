use Rattle.std.proofs.Common.{◌≡◌, ◌↔◌, ℕ, ◌∙◌, true, sym, ap, subst, List}
use Rattle.std.specs.FinSet as set
use Rattle.mre_base.specs.Words.{has_bit, bits_below}
use Rattle.mre_base.proofs.BitWords.{bits_below-is_subset}
use Rattle.mre_base.proofs.bits.Bits.is_subset.Goals as goal

pub returns : goal.returns
returns c =
    let same : c.self.inside.width ≡ c.other.inside.width = ap (λ bits. bits.width) c.self.view_is ∙ c.requires ∙ sym (ap (λ bits. bits.width) c.other.view_is) in
    let Says : List ℕ → List ℕ → Type 0 = λ one two. (c.is_subset.result ≡ true) ↔ ((k : ℕ) → has_bit one k ≡ true → has_bit two k ≡ true) in
    let says = subst (λ two. Says c.self.inside.words.items two) c.as_slice-2.ensures (subst (λ one. Says one c.as_slice-2.result.now) c.as_slice.ensures c.is_subset.ensures) in
    bits_below-is_subset c.self.inside.width c.self.inside.words.items c.other.inside.words.items c.is_subset.result c.self.invariant says
    ∙ ap (λ width. set.is_subset (bits_below c.self.inside.width c.self.inside.words.items) (bits_below width c.other.inside.words.items)) same
    ∙ (λ i. set.is_subset ((c.self.view_is i).members) ((c.other.view_is i).members))
