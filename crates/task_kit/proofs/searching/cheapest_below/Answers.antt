use Rattle.std.proofs.Common.{slice_get, sym, ap, ◌∙◌, subst, refl, arith}
use Rattle.task_kit.specs.Bounds.{HasNoCheaper}
use Rattle.task_kit.specs.Reached.{reached}
use Rattle.task_kit.specs.Searching.{IsFound}
use Rattle.task_kit.proofs.SearchLemmas.{back_over, started, taken, none_cheaper, found_cheapest, found_taken, found_none, found_within, parents_earlier}
use Rattle.task_kit.proofs.searching.cheapest_below.Goals as goal

pub loop-at-init : goal.loop-at-init
loop-at-init g c =
    let both = started (g.T.TaskView.seen c.args.task.now) c.args.k (reached c.in_ok-table.table) c.start.result.now c.start.ensures c.in_ok-table.ensures.indexed c.in_ok-table.ensures.adds in
    record {
      trail = both.0;
      settled = both.1;
      found = refl;
      low = omega arith;
      from = ap (λ b. b.width) (c.in_ok-copy.ensures.ok ∙ c.start-2.ensures);
      into = ap (λ b. b.width) (c.in_ok-copy-2.ensures.ok ∙ c.start-3.ensures);
    }

pub expand-requires-clause-trail : goal.expand-requires-clause-trail
expand-requires-clause-trail g c =
    (taken (g.T.TaskView.seen c.args.task.now) (reached c.loop-at.table) (reached c.next.new.self) c.in-Some.at c.loop-at.found.bound c.in-Some.ensures.some c.in-Some.ensures.rest c.loop-at.invariant.trail c.loop-at.invariant.settled).0

pub expand-requires-clause-settled : goal.expand-requires-clause-settled
expand-requires-clause-settled g c =
    (taken (g.T.TaskView.seen c.args.task.now) (reached c.loop-at.table) (reached c.next.new.self) c.in-Some.at c.loop-at.found.bound c.in-Some.ensures.some c.in-Some.ensures.rest c.loop-at.invariant.trail c.loop-at.invariant.settled).1

pub expand-requires-clause-at : goal.expand-requires-clause-at
expand-requires-clause-at g c =
    (taken (g.T.TaskView.seen c.args.task.now) (reached c.loop-at.table) (reached c.next.new.self) c.in-Some.at c.loop-at.found.bound c.in-Some.ensures.some c.in-Some.ensures.rest c.loop-at.invariant.trail c.loop-at.invariant.settled).2

pub loop-at-preserved : goal.loop-at-preserved
loop-at-preserved g c =
    let seen = g.T.TaskView.seen c.args.task.now in
    record {
      trail = c.in_ok-expand.ensures.trail;
      settled = c.in_ok-expand.ensures.settled;
      found = c.in_ok-expand.ensures.found c.args.k (found_taken seen (reached c.loop-at.table) (reached c.next.new.self) c.args.k c.loop-at.found.bound c.loop-at.found.foil c.in-Some.ensures.rest c.loop-at.invariant.found);
      low = omega (arith, c.loop-at.invariant.low, c.in_ok-expand.ensures.bound);
      from = c.in_ok-expand.ensures.from_width ∙ c.loop-at.invariant.from;
      into = c.in_ok-expand.ensures.into_width ∙ c.loop-at.invariant.into;
    }

pub returns-in-None : goal.returns-in-None
returns-in-None g c =
    let seen = g.T.TaskView.seen c.args.task.now in
    subst (HasNoCheaper seen) (found_none seen (reached c.loop-at.table) c.args.k c.loop-at.found.bound c.loop-at.found.foil c.in-None.is c.loop-at.invariant.found)
    (none_cheaper seen c.loop-at.found.bound (reached c.loop-at.table) c.loop-at.invariant.trail c.loop-at.invariant.settled c.in_default.ensures.none)

pub path_back-requires-clause-place : goal.path_back-requires-clause-place
path_back-requires-clause-place g c =
    found_within (g.T.TaskView.seen c.args.task.now) (reached c.loop-at.table) (reached c.next.new.self) c.args.k c.loop-at.found.bound c.in-Some-foil.place c.loop-at.found.foil c.in-Some-foil.is c.in_default.ensures.rest c.loop-at.invariant.found

pub path_back-requires-clause-earlier : goal.path_back-requires-clause-earlier
path_back-requires-clause-earlier g c at node here =
    parents_earlier (g.T.TaskView.seen c.args.task.now) (reached c.loop-at.table) c.loop-at.invariant.trail at node (ap (λ r. slice_get r.nodes at) (sym c.in_default.ensures.rest) ∙ here)

pub returns : goal.returns
returns g c =
    let seen = g.T.TaskView.seen c.args.task.now in
    let r = reached c.loop-at.table in
    found_cheapest seen c.args.k c.loop-at.found.bound c.in-Some-foil.place r c.in_ok-back-in-Some-foil.back.items c.in_ok-listed-in-Some-foil.field-0 c.loop-at.invariant.trail
    (none_cheaper seen c.loop-at.found.bound r c.loop-at.invariant.trail c.loop-at.invariant.settled c.in_default.ensures.none)
    (subst (IsFound seen r c.args.k c.loop-at.found.bound) c.in-Some-foil.is c.loop-at.invariant.found)
    (back_over r (reached c.next.new.self) c.in-Some-foil.place c.in_ok-back-in-Some-foil.back.items c.in_default.ensures.rest c.in_ok-back-in-Some-foil.ensures)
    (c.in_ok-listed-in-Some-foil.ensures ∙ c.reverse_in_place.ensures)
