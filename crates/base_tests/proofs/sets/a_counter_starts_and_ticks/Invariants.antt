use Rattle.base_tests.proofs.sets.a_counter_starts_and_ticks.Given as goal

abbrev pub ghosts-count : goal.ghosts-count
ghosts-count a = record { name = a.blank.name; parts = a.blank.parts }
