use Rattle.std.proofs.Common.{◌≡◌, true, [], ◌∷◌, ◌++◌, sym, subst, ◌∙◌, arith, rules}
use Rattle.std.specs.Prelude.{slice_set}
use Rattle.pddl_names.specs.Forests.{IsPath}
use Rattle.pddl_names.proofs.GrowLemmas.{unmarked_set}
use Rattle.pddl_names.proofs.PathLemmas.{path_start, path_more}
use Rattle.pddl_names.proofs.forests.path_from.Goals as goal

pub loop-seen-init : goal.loop-seen-init
loop-seen-init c =
    let none : c.new-path.result.items ≡ [] = search rules in
    subst (λ p. IsPath c.args.ups.now.items c.args.seen.now.items c.args.seen.now.items c.args.start p c.args.start) (sym none)
    (path_start c.args.ups.now.items c.args.seen.now.items c.args.start c.requires.seen c.requires.start)

pub loop-seen-smaller : goal.loop-seen-smaller
loop-seen-smaller c =
    let known = c.loop-seen.invariant in
    let fewer = unmarked_set c.loop-seen.seen.items c.loop-seen.at (omega (arith, known.end_inside, known.count)) (sym c.is_marked.ensures ∙ c.loop-seen-test.true) in
    omega (arith, fewer)

pub loop-seen-preserved : goal.loop-seen-preserved
loop-seen-preserved c =
    let ups = c.args.ups.now.items in
    let pushed : c.push.new.self.items ≡ c.loop-seen.path.items ++ c.loop-seen.at ∷ [] = search rules in
    let whole = path_more ups c.args.seen.now.items c.loop-seen.seen.items c.args.start c.loop-seen.at c.loop-seen.path.items (sym c.is_marked.ensures ∙ c.loop-seen-test.true) c.loop-seen.invariant c.requires.ups in
    subst (λ p. IsPath ups c.args.seen.now.items (slice_set c.loop-seen.seen.items c.loop-seen.at true) c.args.start p c.up-at.result) (sym pushed)
    (subst (λ e. IsPath ups c.args.seen.now.items (slice_set c.loop-seen.seen.items c.loop-seen.at true) c.args.start (c.loop-seen.path.items ++ c.loop-seen.at ∷ []) e) (sym c.up-at.ensures) whole)
