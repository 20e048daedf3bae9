use Rattle.std.proofs.Common.{◌≡◌, map, take}
use Rattle.pair_tables.specs.Featured.{case_of}
use Rattle.pair_tables.specs.Numbers.{number_by}
use Rattle.pair_tables.proofs.tabling.fact_cases.Given as goal

abbrev pub invariant-loop-place : goal.invariant-loop-place
invariant-loop-place l = l.made ≡ map (case_of (number_by l.numbers) (λ atom. atom)) (take l.place l.features)
