use Rattle.std.proofs.Common.{sym, subst}
use Rattle.model_kit.specs.Places.{Value}
use Rattle.named_tables.specs.Tables.{IsWorth}
use Rattle.pair_rules.specs.Ruled.{models_of}
use Rattle.pair_tables.proofs.PriceLemmas.{worth_told, worth_same}
use Rattle.pair_tables.proofs.pricing.worth_case.Goals as goal

pub returns-in-Some : goal.returns-in-Some
returns-in-Some c =
    subst (IsWorth (models_of c.args.pair.now.planner c.args.pair.now.user c.args.differences.now) (Value c.args.function c.args.objects)) (sym c.worths.ensures)
    (worth_told c.args.pair.now.planner c.args.pair.now.user c.args.differences.now c.requires.all c.args.function c.args.objects c.place_at.result c.place_at.ensures.place c.in-Some.place c.in-Some.is c.item.result.now c.item.ensures)

pub returns-in-None : goal.returns-in-None
returns-in-None c =
    worth_same c.args.pair.now.planner c.args.pair.now.user c.args.differences.now c.requires.all c.args.function c.args.objects c.place_at.result c.place_at.ensures.place c.in-None.is c.value_at.result
    (c.value_at.ensures c.args.pair.now.planner.values c.requires.table)
