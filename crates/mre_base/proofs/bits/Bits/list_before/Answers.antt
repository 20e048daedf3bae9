use Rattle.std.proofs.Common.{◌≡◌, ℕ, ◌*◌, ◌∙◌, sym, ap, subst, arith, List, filter, length}
use Rattle.std.specs.List.{range_with_len}
use Rattle.mre_base.specs.Before.{is_earlier_list}
use Rattle.mre_base.specs.Sets.{numbers_below}
use Rattle.mre_base.specs.Words.{has_bit}
use Rattle.mre_base.proofs.BitWords.{numbers_below-bits}
use Rattle.mre_base.proofs.bits.Bits.list_before.Goals as goal

pub returns : goal.returns
returns c =
    let same : c.self.inside.width ≡ c.other.inside.width = ap (λ bits. bits.width) c.self.view_is ∙ c.requires ∙ sym (ap (λ bits. bits.width) c.other.view_is) in
    let listed : List ℕ → ℕ → List ℕ = λ words n. filter (has_bit words) (range_with_len 0 (64 * n)) in
    let Says : List ℕ → List ℕ → Type 0 = λ one two. c.is_list_before.result ≡ is_earlier_list (listed one (length one)) (listed two (length one)) in
    let says = subst (λ two. Says c.self.inside.words.items two) c.as_slice-2.ensures (subst (λ one. Says one c.as_slice-2.result.now) c.as_slice.ensures c.is_list_before.ensures) in
    let long : length c.self.inside.words.items ≡ length c.other.inside.words.items = let one = c.self.invariant.long in let two = c.other.invariant.long in omega arith in
    says
    ∙ ap (λ n. is_earlier_list (listed c.self.inside.words.items (length c.self.inside.words.items)) (listed c.other.inside.words.items n)) long
    ∙ (λ i. is_earlier_list (numbers_below-bits c.self.inside.width c.self.inside.words.items c.self.invariant i) (numbers_below-bits c.other.inside.width c.other.inside.words.items c.other.invariant i))
    ∙ (λ i. is_earlier_list (numbers_below ((c.self.view_is i).width) ((c.self.view_is i).members)) (numbers_below ((c.other.view_is i).width) ((c.other.view_is i).members)))
