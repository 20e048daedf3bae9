-- The tokens that are a text of a grammar, and the place where others first leave it.
use Rattle.std.specs.Prelude.{◌≡◌, ℕ, ◌==◌, ◌&&◌, Bool, true, false, List, [], ◌∷◌, ◌++◌, IsTrue}
use Rattle.std.specs.Char.{to_ascii_lowercase}
use Rattle.std.specs.List.{list_all}
use Rattle.pddl_text.specs.declared.fault.TextFault.{TextFault}
use Rattle.pddl_text.specs.declared.fault.TextRule.TheVariants as rule
use Rattle.pddl_text.specs.declared.tree.Forest.{Forest}
use Rattle.pddl_text.specs.Bytes.{is_word_byte}
use Rattle.pddl_text.specs.Forests.{tokens_of_all}
use Rattle.pddl_text.specs.Tokens.{Token}
use Rattle.pddl_text.specs.Tokens as token
use Rattle.pddl_form.specs.declared.parts.Met.{Met}
use Rattle.pddl_form.specs.declared.parts.Part.{Part}
use Rattle.pddl_form.specs.declared.parts.Part.TheVariants as part
use Rattle.pddl_form.specs.Faults.{fault, fault_at, fault_past}
use Rattle.pddl_form.specs.Runs.{Going, run}

-- the part is a whole text
pub data IsWhole : Part → Type 0 where
  domain : IsWhole part.Domain
  problem : IsWhole part.Problem

-- the tokens are a text of the grammar that begins with this part, and their words are these
abbrev pub HasForm : Part → List Token → List Met → Type 0
HasForm start tokens met = run (start ∷ []) [] tokens ≡ Going [] met

-- the tokens are a text of the grammar
abbrev pub IsText : Part → List Token → Type 0
IsText start tokens = (met : List Met) × HasForm start tokens met

-- a word of a text: word bytes in lower case, one at least
abbrev pub is_word : List ℕ → Bool
is_word [] = false
is_word (b ∷ bytes) = list_all (λ c. is_word_byte c && (to_ascii_lowercase c == c)) (b ∷ bytes)

-- the token can occur in a text
abbrev pub is_written : Token → Bool
is_written (token.Word text at from past) = is_word text
is_written (token.Open at) = true
is_written (token.Close at) = true
is_written (token.Stray at) = false

-- the tokens can be continued to a text of the grammar, by tokens that can occur in a text
abbrev pub GoesOn : Part → List Token → Type 0
GoesOn start tokens =
    (more : List Token) × IsTrue (list_all is_written more) × IsText start (tokens ++ more)

-- some text of the grammar begins with the tokens
abbrev pub Begins : Part → List Token → Type 0
Begins start tokens = (more : List Token) × IsText start (tokens ++ more)

-- the fault of a token, where these parts are due
abbrev pub fault_of : List Part → Token → List Token → TextFault
fault_of [] t tokens = fault_past t
fault_of (p ∷ due) t tokens = fault_at p t tokens

-- the first token that no text has after the tokens before it, and its fault
pub record IsFirst (start : Part) (tokens : List Token) (found : TextFault) : Type 0 where
  pub before : List Token
  pub token : Token
  pub rest : List Token
  pub split : tokens ≡ before ++ token ∷ rest
  -- some text goes on after the tokens before it
  pub goes_on : GoesOn start before
  -- no text begins with them and this token
  pub stuck : Begins start (before ++ token ∷ []) → ⊥
  -- the parts that are due there give the fault
  pub due : List Part
  pub met : List Met
  pub reached : run (start ∷ []) [] before ≡ Going due met
  pub fault : found ≡ fault_of due token rest

-- the tokens can be continued to a text but aren't one: the fault is past the last byte
pub record IsShort (start : Part) (tokens : List Token) : Type 0 where
  pub goes_on : GoesOn start tokens
  pub unfinished : IsText start tokens → ⊥

-- the forest isn't in the grammar; this is the fault where it first leaves it
pub data LeavesForm (start : Part) (forest : Forest) : TextFault → Type 0 where
  at_token : {found : TextFault} → IsFirst start (tokens_of_all forest.trees) found
      → LeavesForm start forest found
  past_end : IsShort start (tokens_of_all forest.trees)
      → LeavesForm start forest (fault forest.past rule.Form [])
