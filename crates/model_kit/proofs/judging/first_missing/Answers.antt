use Rattle.std.proofs.Common.{sym, ap, subst, ◌∙◌, ℕ, ◌+◌, List, arith, Some, None}
use Rattle.std.specs.Prelude.{IsTrue}
use Rattle.model_kit.specs.Vocabulary.{is_ground_atom}
use Rattle.mre_base.proofs.Loops.{All_item}
use Rattle.model_kit.proofs.MissingLemmas.{Known, still_known, earlier_known, all_there, first_there, at_end}
use Rattle.model_kit.proofs.judging.first_missing.Goals as goal

pub loop-place-preserved-then-contains : goal.loop-place-preserved-then-contains
loop-place-preserved-then-contains c =
    still_known c.args.words.now c.args.state.now c.args.atoms.now _ _ c.item-atom.ensures (sym c.contains.ensures ∙ c.if-contains.true) c.loop-place.best c.loop-place.invariant

pub print_atom-requires : goal.print_atom-requires
print_atom-requires c = All_item _ _ _ c.item-atom.ensures (λ atom. IsTrue (is_ground_atom c.args.words.now atom)) c.requires

pub loop-place-preserved : goal.loop-place-preserved
loop-place-preserved c =
    subst (Known c.args.words.now c.args.state.now c.args.atoms.now (c.loop-place.place + 1)) (sym c.earlier-best.ensures)
    (earlier_known c.args.words.now c.args.state.now c.args.atoms.now _ _ c.item-atom.ensures (sym c.contains.ensures ∙ c.if-contains.false) c.in_ok-text.text c.in_ok-text.ensures.ok
    c.loop-place.best c.loop-place.invariant)

pub returns-in_default-clause-none : goal.returns-in_default-clause-none
returns-in_default-clause-none c =
    all_there c.args.words.now c.args.state.now c.args.atoms.now
    (at_end c.args.words.now c.args.state.now c.args.atoms.now c.loop-place.place c.loop-place.best None c.loop-place.invariant (omega arith) (omega arith) c.in_default.is)

pub returns-clause-first : goal.returns-clause-first
returns-clause-first c =
    let best : ℕ × List ℕ = (c.in-Some.place, c.in-Some.field-0-1) in
    first_there c.args.words.now c.args.state.now c.args.atoms.now c.requires best
    (at_end c.args.words.now c.args.state.now c.args.atoms.now c.loop-place.place c.loop-place.best (Some best) c.loop-place.invariant (omega arith) (omega arith) c.in-Some.is)
    c.in_ok-atom.atom (c.item.ensures ∙ ap Some (sym c.in_ok-atom.ensures.ok))
