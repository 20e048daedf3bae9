use Rattle.std.proofs.Common.{◌+◌, [], take, All, sym, subst, refl, arith}
use Rattle.std.proofs.lemmas.List.{take_all}
use Rattle.task_kit.specs.Kept.{cuts_meaning}
use Rattle.bound_cert.specs.Lines.{cut_lines, Keeps}
use Rattle.bound_cert.specs.Rooms.{AreCharged}
use Rattle.bound_cert.proofs.RoomLemmas.{next_cuts}
use Rattle.bound_cert.proofs.LineLemmas.{cuts_keep_more, fault_among_cuts}
use Rattle.bound_cert.proofs.cutting.fault_in_cuts.Goals as goal

pub returns-in-Some-clause-broken : goal.returns-in-Some-clause-broken
returns-in-Some-clause-broken g c k states =
    let task = g.T.TaskView.seen c.args.task.now in
    let before = cuts_meaning task.atoms (take c.loop-place.place c.args.cuts.now) in
    fault_among_cuts task k states c.args.state.now.members c.args.cuts.now c.loop-place.place c.item.result.now c.item.ensures (c.loop-place.invariant.kept k states) c.args.line
    (record { line = c.args.line + c.loop-place.place; rule = c.in-Some.rule }) refl (c.in-Some.ensures.broken before k states c.loop-place.invariant.charged)

pub loop-place-preserved : goal.loop-place-preserved
loop-place-preserved g c =
    let task = g.T.TaskView.seen c.args.task.now in
    let before = cuts_meaning task.atoms (take c.loop-place.place c.args.cuts.now) in
    record {
      scratch = c.broken_by_cut-broken.ensures.scratch;
      charged =
          subst (λ cuts. AreCharged task cuts c.broken_by_cut-broken.new.scratch.charged.items) (sym (next_cuts task.atoms c.args.cuts.now c.loop-place.place c.item.result.now c.item.ensures))
          (c.in_default.ensures.charged before c.loop-place.invariant.charged);
      kept = λ k states.
          cuts_keep_more task k states c.args.state.now.members c.args.cuts.now c.loop-place.place c.item.result.now c.item.ensures (c.loop-place.invariant.kept k states)
          (c.in_default.ensures.kept before k states c.loop-place.invariant.charged);
    }

pub returns-clause-kept : goal.returns-clause-kept
returns-clause-kept g c k states =
    let task = g.T.TaskView.seen c.args.task.now in
    subst (λ cuts. All (Keeps task k states) (cut_lines c.args.state.now.members [] (cuts_meaning task.atoms cuts)))
    (take_all c.loop-place.place c.args.cuts.now (omega (arith, c.loop-place-test.false, c.len-place-end.ensures))) (c.loop-place.invariant.kept k states)
