use Rattle.std.proofs.Common.{◌≡◌, ℕ, ◌∙◌, ◌++◌, sym, ap, subst, List, fold}
use Rattle.std.specs.FinSet as set
use Rattle.std.specs.Hash as fed
use Rattle.mre_base.specs.Words.{words_from, words_for, AreWords}
use Rattle.mre_base.specs.Sets.{BitSet}
use Rattle.mre_base.proofs.BitWords.{words_from-bits_below}
use Rattle.mre_base.proofs.bits.BitsHash.hash.Goals as goal

pub returns : goal.returns
returns g c =
    let read : BitSet → List (List ℕ) = λ bits. fed.u32 bits.width ++ fed.slice fed.u64 (words_from (set.contains bits.members) 0 (words_for bits.width)) in
    let back = words_from-bits_below c.self.inside.width c.self.inside.words.items c.self.invariant (subst AreWords c.as_slice.ensures c.hash.ensures.words) in
    let written = subst (λ words. c.hash.new.state ≡ fold g.H.Hasher.write c.write_u32.new.self (fed.slice fed.u64 words)) c.as_slice.ensures c.hash.ensures.writes in
    written
    ∙ ap (λ state. fold g.H.Hasher.write state (fed.slice fed.u64 c.self.inside.words.items)) c.write_u32.ensures
    ∙ ap (λ words. fold g.H.Hasher.write c.args.state.now (fed.u32 c.self.inside.width ++ fed.slice fed.u64 words)) (sym back)
    ∙ ap (λ bits. fold g.H.Hasher.write c.args.state.now (read bits)) c.self.view_is
