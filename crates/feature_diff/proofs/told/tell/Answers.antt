use Rattle.std.specs.Prelude.{flat_map}
use Rattle.std.proofs.lemmas.Result.{on_ok_weaker}
use Rattle.feature_diff.specs.Gathering.{Grows, row_told, AllTold}
use Rattle.feature_diff.proofs.GatherLemmas.{rows_within, rows_of}
use Rattle.feature_diff.proofs.told.tell.Goals as goal

pub tell_rows-requires : goal.tell_rows-requires
tell_rows-requires g c =
    rows_within (g.T.Told.form c.args.words.now) c.args.planner.now c.args.user.now c.in_ok-rows.rows
    (rows_of (g.T.Told.form c.args.words.now) c.args.planner.now c.args.user.now _ _ c.in_ok-rows.rows c.in_ok-planner_forms.ensures.ok c.in_ok-user_forms.ensures.ok c.in_ok-rows.ensures.ok)

pub returns : goal.returns
returns g c = record {
  ok =
      on_ok_weaker c.tell_rows.result
      (λ (grows : Grows c.args.gathered.now c.tell_rows.new.gathered (flat_map (row_told (g.T.Told.alone c.args.kind.now) (g.T.Told.both c.args.kind.now) c.args.planner.now c.args.user.now) c.in_ok-rows.rows)).
      let told : AllTold (g.T.Told.alone c.args.kind.now) (g.T.Told.both c.args.kind.now) (g.T.Told.form c.args.words.now) c.args.planner.now c.args.user.now c.args.gathered.now c.tell_rows.new.gathered = (
        c.in_ok-rows.rows,
        rows_of (g.T.Told.form c.args.words.now) c.args.planner.now c.args.user.now _ _ c.in_ok-rows.rows c.in_ok-planner_forms.ensures.ok c.in_ok-user_forms.ensures.ok c.in_ok-rows.ensures.ok,
        grows,
      ) in told)
      c.tell_rows.ensures.ok;
}
