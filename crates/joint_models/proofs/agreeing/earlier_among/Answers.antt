use Rattle.std.proofs.Common.{◌+◌, take, ap, subst, sym, ◌∙◌, arith}
use Rattle.std.proofs.lemmas.Bool.{true≢false}
use Rattle.model_kit.specs.Pairs.{names}
use Rattle.joint_models.specs.Disagreements.{Disagree}
use Rattle.joint_models.specs.Searching.{earlier_of, GoesOn}
use Rattle.joint_models.proofs.Search.{goes_miss, goes_hit, goes_all}
use Rattle.joint_models.proofs.agreeing.earlier_among.Goals as goal
use Rattle.joint_models.proofs.agreeing.earlier_among.Goals.{then-do_disagree+in_ok-copy, else-do_disagree}

pub loop-place-preserved : goal.loop-place-preserved
loop-place-preserved c =
    let P = Disagree c.args.group c.args.planner.words.now c.args.user.words.now in
    elim c.if-do_disagree.branch [
      | then-do_disagree+in_ok-copy w ↦
          subst (GoesOn P (names (take (c.loop-place.place + 1) c.args.among.now)) c.args.before) (sym w.least-is)
          (goes_hit P c.args.among.now c.loop-place.place c.args.before c.item.result.now c.item.ensures c.loop-place.least c.loop-place.invariant (c.do_disagree.ensures.0 w.if-do_disagree.true)
          w.earlier.result (w.earlier.ensures ∙ ap (earlier_of c.loop-place.least) w.in_ok-copy.ensures.ok))
      | else-do_disagree w ↦
          subst (GoesOn P (names (take (c.loop-place.place + 1) c.args.among.now)) c.args.before) (sym w.least-is)
          (goes_miss P c.args.among.now c.loop-place.place c.args.before c.item.result.now c.item.ensures c.loop-place.least c.loop-place.invariant
          (λ disagree. true≢false (sym (c.do_disagree.ensures.1 disagree) ∙ w.if-do_disagree.false)))
    ]

pub returns : goal.returns
returns c =
    let P = Disagree c.args.group c.args.planner.words.now c.args.user.words.now in
    record { ok = goes_all P c.args.among.now c.loop-place.place c.args.before c.loop-place.least (omega arith) c.loop-place.invariant }
