use Rattle.std.proofs.Common.{subst}
use Rattle.std.specs.Prelude.{MatchOption}
use Rattle.ground_core.specs.Names.{IsUnlisted, AreFound}
use Rattle.ground_core.proofs.NameLemmas.{not_unlisted}
use Rattle.ground_core.proofs.names.NameTable.number_plan.Goals as goal

pub unreachable-requires : goal.unreachable-requires
unreachable-requires c =
    let words = c.args.words.now in
    let names = c.args.self.now.actions.items in
    let steps = c.args.plan.now.steps in
    not_unlisted words names steps c.requires.listed (subst (λ o. MatchOption o (IsUnlisted words names steps) (AreFound words names steps)) c.in-None.is c.in_ok-numbers.ensures.ok)
