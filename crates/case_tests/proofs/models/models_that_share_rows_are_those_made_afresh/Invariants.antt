use Rattle.case_tests.proofs.models.models_that_share_rows_are_those_made_afresh.Given as goal

abbrev pub ghosts-assert_tables : goal.ghosts-assert_tables
ghosts-assert_tables bound args = record { name = args.blank.name; parts = args.blank.parts }
