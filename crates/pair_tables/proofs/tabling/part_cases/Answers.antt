use Rattle.std.proofs.Common.{◌∙◌, ap}
use Rattle.mre_base.proofs.Loops.{map_item}
use Rattle.model_kit.specs.Runs.{instance}
use Rattle.case_kit.specs.declared.cases.Case.{Case}
use Rattle.pair_tables.specs.Featured.{case_of}
use Rattle.pair_tables.specs.Numbers.{number_by}
use Rattle.pair_tables.proofs.tabling.part_cases.Goals as goal

pub loop-place-preserved : goal.loop-place-preserved
loop-place-preserved c =
    let number = c.number-atom.ensures ∙ ap (number_by c.args.numbers.now) c.in_ok-instance_of.ensures.ok in
    map_item c.args.features.now c.loop-place.place c.item.result.now c.item.ensures (case_of (number_by c.args.numbers.now) (instance c.args.objects.now)) c.loop-place.made c.push.new.self _ c.loop-place.invariant c.in_ok-push.ensures.ok
    (λ i. let made : Case = record { atom = number i; when = c.item.result.now.1 } in made)
