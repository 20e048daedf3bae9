use Rattle.std.proofs.Common.{sym, ap, ◌∙◌, drop, ◌+◌}
use Rattle.std.specs.Prelude.{unwrap_or}
use Rattle.mre_base.proofs.Loops.{drop_item}
use Rattle.pddl_form.specs.Numbers.{number}
use Rattle.pddl_names.specs.Listings.{number_behind}
use Rattle.pddl_models.proofs.SayingLemmas.{number_more, number_here}
use Rattle.pddl_models.proofs.facts.number_said.Goals as goal

pub returns-then-not-is_term : goal.returns-then-not-is_term
returns-then-not-is_term c =
    c.unwrap_or.ensures ∙ ap (λ o. unwrap_or o 0) (c.number_of.ensures ∙ ap number c.bytes.ensures)
    ∙ sym (number_here c.item-word.result.now (drop (c.loop-place.place + 1) c.args.said.now) (sym c.is_term.ensures ∙ c.if-not-is_term.true))
    ∙ sym (ap number_behind (drop_item c.args.said.now c.loop-place.place c.item-word.result.now c.item-word.ensures))
    ∙ c.loop-place.invariant

pub loop-place-preserved : goal.loop-place-preserved
loop-place-preserved c =
    sym (number_more c.item-word.result.now (drop (c.loop-place.place + 1) c.args.said.now) (sym c.is_term.ensures ∙ c.if-not-is_term.false))
    ∙ sym (ap number_behind (drop_item c.args.said.now c.loop-place.place c.item-word.result.now c.item-word.ensures))
    ∙ c.loop-place.invariant
