use Rattle.std.proofs.Common.{◌≡◌, ◌↔◌, ℕ, ◌∙◌, true, sym, ap, subst, List}
use Rattle.mre_base.specs.Words.{bits_below, HoldBits, AreWords}
use Rattle.mre_base.proofs.BitWords.{bits_below-same}
use Rattle.mre_base.proofs.bits.Bits.same.Goals as goal

pub returns : goal.returns
returns c =
    let same : c.self.inside.width ≡ c.other.inside.width = ap (λ bits. bits.width) c.self.view_is ∙ c.requires ∙ sym (ap (λ bits. bits.width) c.other.view_is) in
    let Same : List ℕ → List ℕ → Type 0 = λ one two. (c.is_same.result ≡ true) ↔ (one ≡ two) in
    let says = subst (λ two. Same c.self.inside.words.items two) c.as_slice-2.ensures (subst (λ one. Same one c.as_slice-2.result.now) c.as_slice.ensures c.is_same.ensures.same) in (
      λ e. let words = says.0 e in
          sym c.self.view_is ∙ (λ i. record { width = same i; members = bits_below (same i) (words i) }) ∙ c.other.view_is,
      λ e. says.1 (bits_below-same c.self.inside.width c.self.inside.words.items c.other.inside.words.items c.self.invariant
          (subst (λ width. HoldBits width c.other.inside.words.items) (sym same) c.other.invariant)
          (subst AreWords c.as_slice.ensures c.is_same.ensures.one) (subst AreWords c.as_slice-2.ensures c.is_same.ensures.two)
          (ap (λ bits. bits.members) (c.self.view_is ∙ e ∙ sym c.other.view_is) ∙ ap (λ width. bits_below width c.other.inside.words.items) (sym same))),
    )
