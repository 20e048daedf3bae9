use Rattle.std.proofs.Common.{◌<◌, length, sym, ap, subst, ◌∙◌, ⊎_elim, inr}
use Rattle.std.proofs.lemmas.Bool.{true≢false}
use Rattle.pddl_names.specs.declared.forests.Node.{Node}
use Rattle.pddl_names.specs.Forests.{up, IsUnder}
use Rattle.pddl_names.proofs.ReachLemmas.{root_inside, reach_under, under_reach}
use Rattle.pddl_names.proofs.forests.does_reach.Goals as goal

pub is_under-requires-2-clause-from : goal.is_under-requires-2-clause-from
is_under-requires-2-clause-from c =
    let ups = c.args.ups.now.items in
    let forest = c.requires.forest in
    let there = c.up-round.ensures ∙ ap (λ (n : Node). up ups n.root) c.node_at.ensures in
    subst (λ k. k < length ups) (sym there) (forest.ups_within _ (root_inside ups c.args.nodes.now.items forest c.args.from c.requires.from))

pub returns : goal.returns
returns c =
    let ups = c.args.ups.now.items in
    let nodes = c.args.nodes.now.items in
    let forest = c.requires.forest in
    let there = c.up-round.ensures ∙ ap (λ (n : Node). up ups n.root) c.node_at.ensures in (
      λ yes. under_reach ups nodes forest c.args.from c.args.to c.requires.from (inr (subst (λ k. IsUnder ups nodes k c.args.to) there (c.is_under-2.ensures.0 yes))),
      λ reach. ⊎_elim
          (λ near. absurd (true≢false (sym (c.is_under.ensures.1 near) ∙ c.if-is_under.false)))
          (λ over. c.is_under-2.ensures.1 (subst (λ k. IsUnder ups nodes k c.args.to) (sym there) over))
          (reach_under ups nodes forest c.args.from c.args.to c.requires.from reach),
    )
