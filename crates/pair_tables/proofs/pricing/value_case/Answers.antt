use Rattle.std.proofs.Common.{length, subst}
use Rattle.reach_kit.specs.Relaxed.{IsPlaced}
use Rattle.pair_tables.proofs.pricing.value_case.Goals as goal

pub arguments-requires : goal.arguments-requires
arguments-requires c = subst (IsPlaced (length c.args.objects.now)) c.in-Call.is c.requires.placed
