-- The words that a reading met: those of the text in written order, each with a part that takes it.
use Rattle.std.specs.Prelude.{ℕ, ◌≢◌, List, [], ◌∷◌}
use Rattle.pddl_text.specs.declared.place.Place.{Place}
use Rattle.pddl_text.specs.Tokens.{Token}
use Rattle.pddl_text.specs.Tokens as token
use Rattle.pddl_form.specs.declared.next.Next.TheVariants as next
use Rattle.pddl_form.specs.declared.parts.Met.{Met}
use Rattle.pddl_form.specs.Table.{after_word}
use Rattle.pddl_form.specs.Words.{sort}

-- the words of the tokens with their places, in written order
abbrev pub words_in : List Token → List (List ℕ × Place)
words_in [] = []
words_in (token.Word text at from past ∷ tokens) = (text, at) ∷ words_in tokens
words_in (token.Open at ∷ tokens) = words_in tokens
words_in (token.Close at ∷ tokens) = words_in tokens
words_in (token.Stray at ∷ tokens) = words_in tokens

-- a word that was met, with its place
abbrev pub word_of : Met → List ℕ × Place
word_of met = (met.text, met.at)

-- the part takes the word
abbrev pub IsTaken : Met → Type 0
IsTaken met = after_word met.part (sort met.text) ≢ next.Refused
