use Rattle.std.proofs.Common.{List, ℕ, ◌+◌, ◌<◌, ◌≤◌, length, sym, ap, subst, ◌∙◌, arith}
use Rattle.std.specs.Bool.{Decides}
use Rattle.pddl_names.specs.Firsts.{typed_name}
use Rattle.pddl_names.specs.Forests.{AreUps, Reaches}
use Rattle.pddl_names.specs.Numbers.{number_of}
use Rattle.pddl_names.proofs.NumberLemmas.{number_below}
use Rattle.pddl_names.proofs.TreeLemmas.{below_same, below_known, below_none, above_none, reach_bound}
use Rattle.pddl_names.proofs.type_tree.TypeTree.is_below.Goals as goal

pub returns-then-is_same : goal.returns-then-is_same
returns-then-is_same c = λ types are. sym (below_same types c.args.name.now c.args.above.now (sym c.is_same.ensures ∙ c.if-is_same.true))

pub does_reach-requires : goal.does_reach-requires
does_reach-requires c =
    let self = c.args.self.now in
    let low = number_below typed_name self.names.entries c.args.name.now c.in-Some.from (sym c.number.ensures ∙ c.in-Some.is) in
    record { forest = c.requires.sound.forest; from = omega (arith, low, c.requires.sound.sized) }

pub returns-in-Some-number : goal.returns-in-Some-number
returns-in-Some-number c = λ types are.
    let self = c.args.self.now in
    let from = ap (λ es. number_of typed_name es c.args.name.now) (sym are.names) ∙ sym c.number.ensures ∙ c.in-Some.is in
    let to = ap (λ es. number_of typed_name es c.args.above.now) (sym are.names) ∙ sym c.number-in-Some.ensures ∙ c.in-Some-number.is in
    let low = number_below typed_name self.names.entries c.args.name.now c.in-Some.from (sym c.number.ensures ∙ c.in-Some.is) in
    let inside = subst (λ (us : List ℕ). c.in-Some.from < length us) are.ups (omega (arith, low, c.requires.sound.sized)) in
    let enough : length types + 2 ≤ length types + 3 = omega arith in
    reach_bound types (subst AreUps are.ups c.requires.sound.forest.ups_within) c.in-Some.from c.in-Some-number.to (length types + 3) inside enough c.does_reach.result
    (subst (λ (us : List ℕ). Decides c.does_reach.result (Reaches us c.in-Some.from c.in-Some-number.to)) are.ups c.does_reach.ensures)
    ∙ sym (below_known types c.args.name.now c.args.above.now c.in-Some.from c.in-Some-number.to (sym c.is_same.ensures ∙ c.if-is_same.false) from to)

pub returns-in-None-number : goal.returns-in-None-number
returns-in-None-number c = λ types are.
    let from = ap (λ es. number_of typed_name es c.args.name.now) (sym are.names) ∙ sym c.number.ensures ∙ c.in-Some.is in
    let to = ap (λ es. number_of typed_name es c.args.above.now) (sym are.names) ∙ sym c.number-in-Some.ensures ∙ c.in-None-number.is in
    sym (above_none types c.args.name.now c.args.above.now c.in-Some.from (sym c.is_same.ensures ∙ c.if-is_same.false) from to)

pub returns-in-None : goal.returns-in-None
returns-in-None c = λ types are.
    sym (below_none types c.args.name.now c.args.above.now (sym c.is_same.ensures ∙ c.if-is_same.false)
    (ap (λ es. number_of typed_name es c.args.name.now) (sym are.names) ∙ sym c.number.ensures ∙ c.in-None.is))
