use Rattle.std.proofs.Common.{◌≡◌, ◌∷◌, ◌∙◌, false}
use Rattle.std.proofs.lemmas.Result.{on_ok_weaker}
use Rattle.pddl_text.specs.Bytes.{is_word_byte}
use Rattle.pddl_text.proofs.AnswerLemmas.{if_stopped_weaker}
use Rattle.pddl_text.proofs.reading.Reader.step.Goals as goal

pub returns-in_ok-end_word-in-InWord-clause-ok : goal.returns-in_ok-end_word-in-InWord-clause-ok
returns-in_ok-end_word-in-InWord-clause-ok c =
    let ends : is_word_byte c.args.byte ≡ false = cc in
    on_ok_weaker c.begin-else-is_word_byte.result
    (λ goes end bytes. c.in_ok-end_word-in-InWord.ensures.ok end (c.args.byte ∷ bytes) ends ∙ goes end bytes)
    c.begin-else-is_word_byte.ensures.ok

pub returns-in_ok-end_word-in-InWord-clause-fault :
    goal.returns-in_ok-end_word-in-InWord-clause-fault
returns-in_ok-end_word-in-InWord-clause-fault c =
    let ends : is_word_byte c.args.byte ≡ false = cc in
    if_stopped_weaker c.begin-else-is_word_byte.result _ _
    (λ fault fails end bytes. c.in_ok-end_word-in-InWord.ensures.ok end (c.args.byte ∷ bytes) ends ∙ fails end bytes)
    c.begin-else-is_word_byte.ensures.fault
