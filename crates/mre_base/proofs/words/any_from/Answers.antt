use Rattle.std.proofs.Common.{arith}
use Rattle.std.proofs.lemmas.Bool.{ne_eqb}
use Rattle.mre_base.proofs.WordLists.{some_in_word, some_in_rest, where_set}
use Rattle.mre_base.proofs.words.any_from.Goals as goal

pub returns-then-words-i-ne0 : goal.returns-then-words-i-ne0
returns-then-words-i-ne0 c = (
  λ _. some_in_word c.args.words.now c.args.i c.args.k c.requires.word (omega (arith, c.type_inv.words c.args.i)) c.if-words-i-ne0.true,
  λ _. rw (ne_eqb _ 0 c.if-words-i-ne0.true),
)

pub returns-else-words-i-ne0 : goal.returns-else-words-i-ne0
returns-else-words-i-ne0 c = (
  λ some. let found = c.any_word_from.ensures.0 some in
      some_in_rest c.args.words.now c.args.i c.args.k found.0 c.requires.bit (omega (arith, c.type_inv.words found.0)) found.1 found.2 found.3,
  λ set. c.any_word_from.ensures.1 (where_set c.args.words.now c.args.i c.args.k set.0 c.requires.bit set.1 set.2 set.3 c.if-words-i-ne0.false),
)
