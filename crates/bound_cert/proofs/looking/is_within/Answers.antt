use Rattle.std.proofs.Common.{◌≡◌, sym, ap, ◌∙◌, arith}
use Rattle.std.proofs.lemmas.Bool.{true≢false, false≢true, leb-true, le-leb}
use Rattle.mre_base.proofs.Loops.{All_item}
use Rattle.bound_cert.proofs.LookLemmas.{nowhere, found_same, within_found, known_at}
use Rattle.bound_cert.proofs.looking.is_within.Goals as goal

pub returns-then-len-place : goal.returns-then-len-place
returns-then-len-place c = (
  λ e. absurd (false≢true e),
  λ known. absurd (nowhere c.args.states.now c.args.wanted.now c.place_for-place.result c.requires.ascending c.place_for-place.ensures.before c.place_for-place.ensures.rest c.requires.wide c.args.number (omega arith) known),
)

pub same-requires : goal.same-requires
same-requires c = All_item c.args.states.now c.place_for-place.result c.item-found.result.now c.item-found.ensures (λ s. s.state.width ≡ c.args.wanted.now.width) c.requires.wide

pub returns-then-same : goal.returns-then-same
returns-then-same c = (
  λ e. known_at c.args.states.now c.place_for-place.result c.item-found.result.now c.args.wanted.now.members c.args.number c.item-found.ensures (ap (λ b. b.members) (c.same.ensures.0 c.if-same.true)) (leb-true _ _ e),
  λ known. le-leb _ _ (within_found c.args.states.now c.args.wanted.now c.place_for-place.result c.requires.ascending c.place_for-place.ensures.before c.place_for-place.ensures.rest c.requires.wide c.args.number c.item-found.result.now c.item-found.ensures known),
)

pub returns-else-same : goal.returns-else-same
returns-else-same c = (
  λ e. absurd (true≢false (sym e ∙ c.if-same.false)),
  λ known. c.same.ensures.1 (found_same c.args.states.now c.args.wanted.now c.place_for-place.result c.requires.ascending c.place_for-place.ensures.before c.place_for-place.ensures.rest c.requires.wide c.args.number c.item-found.result.now c.item-found.ensures known),
)
