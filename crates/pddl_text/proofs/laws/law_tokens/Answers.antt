use Rattle.pddl_text.specs.Reading.{Nothing, tokens_from}
use Rattle.pddl_text.proofs.TokenLemmas.{has_tokens, same_tokens}
use Rattle.pddl_text.proofs.laws.law_tokens.Goals as goal

pub returns : goal.returns
returns c = record {
  some = λ spot bytes. (tokens_from Nothing spot bytes, has_tokens spot bytes);
  one = λ spot bytes tokens others. same_tokens;
}
