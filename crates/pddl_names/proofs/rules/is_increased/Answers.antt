use Rattle.std.proofs.Common.{sym, ◌∙◌, ◌+◌, ◌&&◌, ◌≤◌, length, arith}
use Rattle.std.specs.Str.{bytes_eq}
use Rattle.pddl_names.specs.declared.role.Word.{Word}
use Rattle.pddl_names.specs.Tables.{is_increase_role}
use Rattle.pddl_names.proofs.RoundLemmas.{any_here, none_more}
use Rattle.pddl_names.proofs.rules.is_increased.Goals as goal

pub returns-then-is_increase : goal.returns-then-is_increase
returns-then-is_increase c =
    let text = c.args.text.now in
    let reach : c.loop-earlier.earlier + 1 ≤ c.args.place = omega arith in
    let inside : c.args.place ≤ length c.args.words.now = omega arith in
    sym (any_here (λ (v : Word). is_increase_role v.role && bytes_eq v.text text) c.args.words.now c.args.start c.loop-earlier.earlier c.args.place c.loop-earlier.auto.earlier reach inside
    c.item.result.now c.item.ensures (sym c.is_increase.ensures ∙ c.if-is_increase.true))

pub loop-earlier-preserved : goal.loop-earlier-preserved
loop-earlier-preserved c =
    let text = c.args.text.now in
    none_more (λ (v : Word). is_increase_role v.role && bytes_eq v.text text) c.args.words.now c.args.start c.loop-earlier.earlier c.loop-earlier.auto.earlier
    c.item.result.now c.item.ensures (sym c.is_increase.ensures ∙ c.if-is_increase.false) c.loop-earlier.invariant
