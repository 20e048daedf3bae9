-- How a text is read token by token: the first part that is due takes the token, or the reading
-- stops.
use Rattle.std.specs.Prelude.{List, [], ◌∷◌, ◌++◌, Result, Ok, Err}
use Rattle.pddl_text.specs.declared.fault.TextFault.{TextFault}
use Rattle.pddl_text.specs.declared.fault.TextRule.TheVariants as rule
use Rattle.pddl_text.specs.declared.place.Place.{Place}
use Rattle.pddl_text.specs.declared.tree.Forest.{Forest}
use Rattle.pddl_text.specs.Forests.{tokens_of_all}
use Rattle.pddl_text.specs.Tokens.{Token}
use Rattle.pddl_text.specs.Tokens as token
use Rattle.pddl_form.specs.declared.next.Next.{Next}
use Rattle.pddl_form.specs.declared.next.Next.TheVariants as next
use Rattle.pddl_form.specs.declared.parts.Met.{Met}
use Rattle.pddl_form.specs.declared.parts.Part.{Part}
use Rattle.pddl_form.specs.Faults.{fault, fault_at, fault_past}
use Rattle.pddl_form.specs.Table.{after_word, after_open, after_close}
use Rattle.pddl_form.specs.Words.{sort}

-- what is due after a token, in place of the part that was due
abbrev pub after : Part → Token → Next
after p (token.Word text at from past) = after_word p (sort text)
after p (token.Open at) = after_open p
after p (token.Close at) = after_close p
after p (token.Stray at) = next.Refused

-- the words that were met, and a further token: a word is noted with the part that takes it
abbrev pub noted : Part → Token → List Met → List Met
noted p (token.Word text at from past) met = met ++ record { part = p; text = text; at = at } ∷ []
noted p (token.Open at) met = met
noted p (token.Close at) met = met
noted p (token.Stray at) met = met

-- the state of a reading after some tokens: the parts that are due, in order, and the words that
-- were met; or the fault at which it stopped
pub data Run : Type 0 where
  Going : List Part → List Met → Run
  Stopped : TextFault → Run

-- the reading goes on with what is due, or stops
abbrev pub goes : Next → List Part → TextFault → (List Part → Run) → Run
goes next.Nothing due fault go = go due
goes (next.One p) due fault go = go (p ∷ due)
goes (next.Two p q) due fault go = go (p ∷ q ∷ due)
goes next.Refused due fault go = Stopped fault

-- the state of a reading after these tokens
abbrev pub run : List Part → List Met → List Token → Run
run due met [] = Going due met
run [] met (t ∷ tokens) = Stopped (fault_past t)
run (p ∷ due) met (t ∷ tokens) =
    goes (after p t) due (fault_at p t tokens) (λ then. run then (noted p t met) tokens)

-- what a text gives that ends at this place
abbrev pub ends : Place → Run → Result (List Met) TextFault
ends past (Going [] met) = Ok met
ends past (Going (p ∷ due) met) = Err (fault past rule.Form [])
ends past (Stopped fault) = Err fault

-- what a forest is read as, where this part is the whole text
abbrev pub form_of : Part → Forest → Result (List Met) TextFault
form_of start forest = ends forest.past (run (start ∷ []) [] (tokens_of_all forest.trees))
