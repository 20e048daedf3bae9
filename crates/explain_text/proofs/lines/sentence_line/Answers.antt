use Rattle.std.proofs.Common.{◌∙◌, ap}
use Rattle.model_kit.specs.Sentences.{line}
use Rattle.explain_text.proofs.NumberLemmas.{numbered_is}
use Rattle.explain_text.proofs.SentenceLemmas.{made_is}
use Rattle.explain_text.proofs.lines.sentence_line.Goals as goal

pub returns : goal.returns
returns c = record {
  ok = made_is _ _ _ c.full_line.ensures.ok
      (ap line (c.as_str-2.ensures.value ∙ c.in_ok-text.ensures.ok ∙ numbered_is c.args.number _ _ (c.as_str.ensures ∙ c.in_ok-sentence.ensures.ok)));
}
