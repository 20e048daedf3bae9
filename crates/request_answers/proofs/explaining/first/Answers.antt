use Rattle.std.proofs.Common.{◌∙◌, ap, length, sym, subst, List, ℕ}
use Rattle.std.specs.Prelude.{All}
use Rattle.mre_base.specs.Before.{numbers}
use Rattle.mre_base.specs.declared.kind.Kind.TheVariants.{Mce}
use Rattle.explain_text.specs.Lines.{lines_of}
use Rattle.request_answers.specs.Lines.{IsLine}
use Rattle.request_answers.proofs.Grounded.{first_named, first_costs}
use Rattle.request_answers.proofs.Printing.{lines_are}
use Rattle.request_answers.proofs.WholeLines.{whole_lines}
use Rattle.request_answers.proofs.explaining.first.Goals as goal

pub returns-clause-mce : goal.returns-clause-mce
returns-clause-mce c =
    let question = c.args.question.now in
    first_named question.pair.planner question.pair.user c.args.differences.now c.args.ground.now c.requires.ground c.requires.all question.plan.steps c.requires.fits c.args.plan.now c.requires.named
    c.in_ok-first.first c.in_ok-first.ensures.ok

pub returns-clause-lines : goal.returns-clause-lines
returns-clause-lines c =
    let question = c.args.question.now in
    let differences = c.args.differences.now in
    let first = c.in_ok-first.first in
    lines_are question.pair.planner question.pair.user differences question.plan.steps c.requires.all.each first.told first.cost c.in_ok-lines.lines
    (c.in_ok-lines.ensures.ok ∙ ap (λ words. lines_of Mce words differences (numbers (length differences) first.told) first.cost) c.words.ensures)
    (first_costs question.pair.planner question.pair.user differences c.args.ground.now c.requires.ground c.requires.all question.plan.steps c.requires.fits c.args.plan.now c.requires.named first c.in_ok-first.ensures.ok)

pub returns-clause-whole : goal.returns-clause-whole
returns-clause-whole c =
    let first = c.in_ok-first.first in
    subst (λ (lines : List (List ℕ)). All IsLine lines) (sym c.in_ok-lines.ensures.ok) (whole_lines c.words.result.now c.args.differences.now Mce first.told first.cost)
