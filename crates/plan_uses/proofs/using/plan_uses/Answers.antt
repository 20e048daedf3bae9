use Rattle.std.proofs.Common.{◌≡◌, ◌+◌, length, sym, ap, ◌∙◌, arith}
use Rattle.std.proofs.lemmas.List.{length-map}
use Rattle.mre_base.specs.Sets.{set_below}
use Rattle.feature_diff.specs.Differing.{place_of, places_of}
use Rattle.plan_uses.specs.Uses.{is_used_at}
use Rattle.plan_uses.proofs.UsedLemmas.{none_before, put_in, left_out, test_at, are_used, are_within, are_listed}
use Rattle.plan_uses.proofs.using.plan_uses.Goals as goal
use Rattle.plan_uses.proofs.using.plan_uses.Goals.{then-is_used, else-is_used}

pub loop-place-init : goal.loop-place-init
loop-place-init c = none_before c.args.plan.now.steps (places_of c.args.differences.now) c.none-used.result c.none-used.ensures

pub loop-place-preserved : goal.loop-place-preserved
loop-place-preserved c =
    let test = is_used_at c.args.plan.now.steps (places_of c.args.differences.now) in
    let here = test_at c.args.plan.now.steps c.args.differences.now c.loop-place.place c.item.result.now c.item.ensures in
    elim c.if-is_used.branch [
      | then-is_used w ↦
          put_in test (c.loop-place.place + 1) c.loop-place.used c.if-is_used.used c.loop-place.invariant
          (here ∙ sym c.is_used.ensures ∙ w.if-is_used.true) (w.used-is ∙ w.with-used.ensures)
      | else-is_used w ↦
          left_out test (c.loop-place.place + 1) c.loop-place.used c.if-is_used.used c.loop-place.invariant
          (here ∙ sym c.is_used.ensures ∙ w.if-is_used.false) w.used-is
    ]

-- at the loop's end the set has each number that passes the test
whole : (c : goal.After-loop-place) → c.loop-place.used ≡ set_below (is_used_at c.args.plan.now.steps (places_of c.args.differences.now)) (length c.args.differences.now + 1)
whole c =
    let end : c.loop-place.place ≡ length c.args.differences.now = omega arith in
    c.loop-place.invariant ∙ ap (λ n. set_below (is_used_at c.args.plan.now.steps (places_of c.args.differences.now)) (n + 1)) end

pub returns-clause-used : goal.returns-clause-used
returns-clause-used c =
    are_used c.args.plan.now.steps (places_of c.args.differences.now) (length c.args.differences.now) c.loop-place.used (sym (length-map c.args.differences.now place_of)) (whole c)

pub returns-clause-among : goal.returns-clause-among
returns-clause-among c =
    are_within c.args.plan.now.steps (places_of c.args.differences.now) (length c.args.differences.now) c.loop-place.used (sym (length-map c.args.differences.now place_of)) (whole c)

pub returns-clause-numbers : goal.returns-clause-numbers
returns-clause-numbers c =
    are_listed c.args.plan.now.steps (places_of c.args.differences.now) (length c.args.differences.now) c.loop-place.used (sym (length-map c.args.differences.now place_of)) (whole c)
