use Rattle.std.proofs.Common.{◌≡◌, ap, ◌∙◌}
use Rattle.std.proofs.lemmas.Result.{IfOk-weaker}
use Rattle.case_kit.specs.Evaluated.{meant, permissive}
use Rattle.case_kit.specs.Members.{member}
use Rattle.case_kit.proofs.TableLemmas.{member_law}
use Rattle.plain_program.proofs.trying.member_of.Goals as goal

pub returns : goal.returns
returns c =
    let table = c.args.table.now in
    let told = c.args.told.now in
    record {
      ok = IfOk-weaker c.permissive.result (λ task. meant task ≡ permissive table c.single.result) (λ task. meant task ≡ member table told)
          (λ task is. is ∙ ap (permissive table) c.single.ensures.is ∙ member_law.permissive_single table told) c.permissive.ensures.is;
    }
