use Rattle.std.proofs.Common.{sym, subst, arith}
use Rattle.feature_diff.specs.Differing.{IsToldOf}
use Rattle.ground_cases.proofs.ToldLemmas.{may_tell}
use Rattle.ground_cases.proofs.patching.lines_after.Goals as goal

pub patched-requires : goal.patched-requires
patched-requires c =
    let planner = c.args.pair.now.planner in
    let user = c.args.pair.now.user in
    record {
      within = subst (IsToldOf planner user) (sym c.first_places-told.ensures)
          (may_tell planner user c.args.differences.now c.min.result c.requires.all c.requires.few (omega (arith, c.min.ensures, c.len-all.ensures)));
    }
