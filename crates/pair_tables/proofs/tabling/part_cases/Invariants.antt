use Rattle.std.proofs.Common.{◌≡◌, map, take}
use Rattle.model_kit.specs.Runs.{instance}
use Rattle.pair_tables.specs.Featured.{case_of}
use Rattle.pair_tables.specs.Numbers.{number_by}
use Rattle.pair_tables.proofs.tabling.part_cases.Given as goal

abbrev pub invariant-loop-place : goal.invariant-loop-place
invariant-loop-place l = l.made ≡ map (case_of (number_by l.numbers) (instance l.objects)) (take l.place l.features)
