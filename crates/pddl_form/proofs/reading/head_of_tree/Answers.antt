use Rattle.std.proofs.Common.{◌++◌, ◌∙◌, ap}
use Rattle.pddl_text.specs.Forests.{tokens_of}
use Rattle.pddl_form.specs.Faults.{head}
use Rattle.pddl_form.proofs.TreeTokens.{word_tokens, items_tokens}
use Rattle.pddl_form.proofs.reading.head_of_tree.Goals as goal

pub returns-in-Word : goal.returns-in-Word
returns-in-Word c tokens =
    ap (λ t. head (tokens_of t ++ tokens)) c.in-Word.is
    ∙ ap head (word_tokens c.in-Word.text c.in-Word.at c.in-Word.first c.in-Word.past tokens)

pub returns-in-Items : goal.returns-in-Items
returns-in-Items c tokens =
    ap (λ t. head (tokens_of t ++ tokens)) c.in-Items.is
    ∙ ap head (items_tokens c.in-Items.list c.in-Items.at c.in-Items.close tokens)
