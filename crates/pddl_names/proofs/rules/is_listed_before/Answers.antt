use Rattle.std.proofs.Common.{sym, ◌∙◌, ◌+◌, ◌≤◌, length, arith}
use Rattle.pddl_names.specs.declared.kind.Kind.TheVariants as kind
use Rattle.pddl_names.specs.Kinds.{declares}
use Rattle.pddl_names.proofs.RoundLemmas.{any_here, none_more}
use Rattle.pddl_names.proofs.rules.is_listed_before.Goals as goal

pub returns-then-is_listing : goal.returns-then-is_listing
returns-then-is_listing c =
    let name = c.args.name.now in
    let low : 0 ≤ c.loop-earlier.earlier = omega arith in
    let reach : c.loop-earlier.earlier + 1 ≤ c.args.place = omega arith in
    let inside : c.args.place ≤ length c.args.words.now = omega arith in
    sym (any_here (declares kind.Types name) c.args.words.now 0 c.loop-earlier.earlier c.args.place low reach inside
    c.item.result.now c.item.ensures (sym c.is_listing.ensures ∙ c.if-is_listing.true))

pub loop-earlier-preserved : goal.loop-earlier-preserved
loop-earlier-preserved c =
    let name = c.args.name.now in
    let low : 0 ≤ c.loop-earlier.earlier = omega arith in
    none_more (declares kind.Types name) c.args.words.now 0 c.loop-earlier.earlier low
    c.item.result.now c.item.ensures (sym c.is_listing.ensures ∙ c.if-is_listing.false) c.loop-earlier.invariant
