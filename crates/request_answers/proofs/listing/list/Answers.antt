use Rattle.std.proofs.Common.{◌∙◌, ap, length, sym, subst, List, ℕ}
use Rattle.std.specs.Prelude.{All}
use Rattle.request_answers.specs.Lines.{IsLine}
use Rattle.request_answers.proofs.WholeLines.{whole_list}
use Rattle.mre_base.specs.Before.{numbers}
use Rattle.explain_text.specs.Lines.{list_lines}
use Rattle.request_answers.specs.Outputs.{list_head}
use Rattle.request_answers.proofs.ListLemmas.{listing_is}
use Rattle.request_answers.proofs.listing.list.Goals as goal

pub returns-clause-lines : goal.returns-clause-lines
returns-clause-lines c =
    let question = c.args.question.now in
    let differences = c.args.differences.now in
    let head = c.as_str.result.now in
    listing_is question.pair.planner question.pair.user differences question.plan.steps c.requires.all.each c.args.request.now c.args.chosen head c.in_ok-lines.lines
    (c.in_ok-lines.ensures.ok ∙ ap (λ words. list_lines head words differences (numbers (length differences) c.args.chosen)) c.words.ensures)
    (c.as_str.ensures.value ∙ c.in_ok-head.ensures ∙ (λ i. list_head c.args.request.now (c.count.ensures.count i) (c.len.ensures i)))

pub returns-clause-whole : goal.returns-clause-whole
returns-clause-whole c =
    subst (λ (lines : List (List ℕ)). All IsLine lines) (sym c.in_ok-lines.ensures.ok) (whole_list c.words.result.now c.args.differences.now c.as_str.result.now c.args.chosen)
