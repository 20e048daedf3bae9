use Rattle.std.proofs.Common.{◌++◌, ◌∷◌, ◌∙◌, ap, drop}
use Rattle.pddl_text.specs.Forests.{tokens_of_all}
use Rattle.pddl_text.specs.Tokens as token
use Rattle.pddl_form.specs.Faults.{head}
use Rattle.pddl_form.proofs.StopLemmas.{match_weaker}
use Rattle.pddl_form.proofs.TreeTokens.{first_tree}
use Rattle.pddl_form.proofs.reading.head_of.Goals as goal

pub returns-else-is_empty : goal.returns-else-is_empty
returns-else-is_empty c =
    let list = c.args.list.now in
    match_weaker c.head_of_tree.result _ _ _ _
    (λ none close tokens. ap head (first_tree list c.item.result.now (token.Close close ∷ tokens) c.item.ensures) ∙ none (tokens_of_all (drop 1 list) ++ (token.Close close ∷ tokens)))
    (λ word some close tokens. ap head (first_tree list c.item.result.now (token.Close close ∷ tokens) c.item.ensures) ∙ some (tokens_of_all (drop 1 list) ++ (token.Close close ∷ tokens)))
    c.head_of_tree.ensures
