use Rattle.std.proofs.Common.{◌<◌, sym, ◌∙◌, subst}
use Rattle.std.specs.Prelude.{All}
use Rattle.std.proofs.lemmas.List.{length-map}
use Rattle.mre_base.proofs.Options.{of_some}
use Rattle.cube_kit.specs.Cubes.{all_to}
use Rattle.case_kit.specs.Members.{member, action_after}
use Rattle.plain_program.specs.Answers.{IsCheaper}
use Rattle.plain_program.proofs.RunLemmas.{valid_listed}
use Rattle.request_answers.proofs.grounding.refuse_cheaper.Goals as goal

pub print_list-requires : goal.print_list-requires
print_list-requires c =
    let table = c.args.ground.now.table in
    let told = all_to table.d in
    let task = member table told in
    let list = c.in-Some.foil.list in
    let found = of_some _ c.in-Some.foil (IsCheaper task c.args.plan.now) c.in-Some.is c.in_ok-cheaper_list.ensures.cheaper in
    record {
      listed = subst (λ n. All (λ action. action < n) list) (length-map table.actions (action_after told) ∙ sym c.requires.named) (valid_listed task task.start list found.cheapest.valid);
    }
