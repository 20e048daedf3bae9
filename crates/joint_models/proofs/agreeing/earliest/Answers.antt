use Rattle.std.proofs.Common.{None, subst}
use Rattle.std.proofs.lemmas.Result.{IfOk-weaker}
use Rattle.model_kit.specs.Pairs.{names}
use Rattle.joint_models.specs.Disagreements.{Disagree, AgreeIn}
use Rattle.joint_models.specs.Searching.{GoesOn, IsFound}
use Rattle.joint_models.proofs.Lent.{lent_entries}
use Rattle.joint_models.proofs.Search.{found_both}
use Rattle.joint_models.proofs.agreeing.earliest.Goals as goal

pub returns : goal.returns
returns c =
    let planner = c.args.planner.words.now in
    let user = c.args.user.words.now in
    let P = Disagree c.args.group planner user in
    record {
      ok = IfOk-weaker c.earlier_among-2.result (GoesOn P (names c.group-2.result.now.entries) c.in_ok-first.first) (IsFound (AgreeIn c.args.group planner user) P) (λ least goes.
          found_both c.args.group planner user c.in_ok-first.first least
          (subst (λ es. GoesOn P (names es) None c.in_ok-first.first) (lent_entries planner c.args.planner.lists.now c.requires.planner_are c.args.group c.group.result.now c.group.ensures) c.in_ok-first.ensures.ok)
          (subst (λ es. GoesOn P (names es) c.in_ok-first.first least) (lent_entries user c.args.user.lists.now c.requires.user_are c.args.group c.group-2.result.now c.group-2.ensures) goes))
          c.earlier_among-2.ensures.ok;
    }
