use Rattle.std.proofs.Common.{◌∙◌, [], ◌∷◌, ◌++◌, length, ap}
use Rattle.mre_base.specs.Before.{numbers}
use Rattle.explain_text.specs.Lines.{list_lines}
use Rattle.explain_text.proofs.NumberLemmas.{head_is}
use Rattle.explain_text.proofs.lines.text_of.Goals as goal

pub returns : goal.returns
returns c = record {
  ok =
      c.in_ok-push.ensures.ok
      ∙ (λ i. (c.in_ok-lines.ensures.ok ∙ ap (λ head. list_lines head c.args.words.now c.args.differences.now (numbers (length c.args.differences.now) c.args.told.now))
      (c.as_str.ensures.value ∙ c.in_ok-head.ensures.ok
      ∙ head_is c.args.kind _ _ _ c.args.told.now (length c.args.differences.now) c.name_of_kind.ensures c.count-size.ensures.count c.len-all.ensures c.requires.few c.requires.told)) i
      ++ c.in_ok-cost_line.ensures.ok i ∷ []);
}
