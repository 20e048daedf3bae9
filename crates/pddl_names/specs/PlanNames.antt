-- Which lines are a plan over a vocabulary, and where lines that are none first break a rule of
-- names.
use Rattle.std.specs.Prelude.{ℕ, ◌≡◌, ◌≢◌, ◌<◌, ◌≤◌, suc, List, [], ◌∷◌, length, Some, slice_get}
use Rattle.std.specs.Prelude.{false, All}
use Rattle.std.specs.Option.{option_map}
use Rattle.mre_base.specs.declared.text.Text.{Text}
use Rattle.pddl_text.specs.declared.fault.TextFault.{TextFault}
use Rattle.pddl_text.specs.declared.fault.TextRule.{TextRule}
use Rattle.pddl_text.specs.declared.fault.TextRule.TheVariants as rule
use Rattle.pddl_text.specs.declared.place.Place.{Place}
use Rattle.pddl_text.specs.declared.plan.PlanLine.{PlanLine}
use Rattle.pddl_text.specs.Plans.{Words, SpellsPlan, LeavesPlan}
use Rattle.model_kit.specs.declared.action.GroundAction.{GroundAction}
use Rattle.model_kit.specs.declared.action.Plan.{Plan}
use Rattle.model_kit.specs.declared.vocabulary.Signature.{Signature}
use Rattle.model_kit.specs.declared.vocabulary.Vocabulary.{Vocabulary}
use Rattle.model_kit.specs.Vocabulary.{IsGroundAction, is_object_of}
use Rattle.pddl_names.specs.Numbers.{IsNumberOf, IsUndeclared, entry_name, word_name}

-- ---- what is a plan

-- the words are the names of these objects, one by one
pub data AreObjects (words : Vocabulary) : Words → List ℕ → Type 0 where
  none : AreObjects words [] []
  more : {word : Text × Place} {rest : Words} {object : ℕ} {objects : List ℕ}
      → IsNumberOf entry_name words.objects word.0 object
      → AreObjects words rest objects
      → AreObjects words (word ∷ rest) (object ∷ objects)

-- the words are a ground action: the first is its schema's name, the others name its objects, and
-- they fit
pub record IsStep (words : Vocabulary) (line : Words) (step : GroundAction) : Type 0 where
  pub head : Text × Place
  pub rest : Words
  pub parts : line ≡ head ∷ rest
  pub action : IsNumberOf word_name words.actions head.0 step.schema
  pub objects : AreObjects words rest step.objects
  pub fits : IsGroundAction words step

-- each line is a ground action, in their order
pub data IsPlan (words : Vocabulary) : List PlanLine → List GroundAction → Type 0 where
  end : IsPlan words [] []
  more : {line : PlanLine} {lines : List PlanLine} {step : GroundAction} {steps : List GroundAction}
      → IsStep words line.words step
      → IsPlan words lines steps
      → IsPlan words (line ∷ lines) (step ∷ steps)

-- each line has a word
abbrev pub AreNamed : List PlanLine → Type 0
AreNamed lines = All (λ (line : PlanLine). 0 < length line.words) lines

-- ---- which words break a rule

-- the line has this word at a place, from 0
abbrev pub HasWord : Words → ℕ → Text → Type 0
HasWord line place name =
    option_map (λ (word : Text × Place). word.0) (slice_get line place) ≡ Some name

-- the line's first word is the name of an action, and this is what the action takes
pub record BeginsWith (words : Vocabulary) (line : Words) (signature : Signature) : Type 0 where
  pub number : ℕ
  pub declared : slice_get words.actions number ≡ Some signature
  pub named : HasWord line 0 signature.name

-- the line's word at a place breaks a rule
pub data Breaks (words : Vocabulary) (line : Words) : ℕ → TextRule → Type 0 where
  -- nothing declares the action
  action : (name : Text)
      → HasWord line 0 name
      → IsUndeclared word_name words.actions name
      → Breaks words line 0 rule.Undeclared
  -- nothing declares the object
  object : (place : ℕ) (name : Text)
      → HasWord line (suc place) name
      → IsUndeclared entry_name words.objects name
      → Breaks words line (suc place) rule.Undeclared
  -- the action takes another number of objects
  arity : (signature : Signature)
      → BeginsWith words line signature
      → length line ≢ suc (length signature.params)
      → Breaks words line 0 rule.WrongArity
  -- the object's type is neither the parameter's nor below it
  type : (signature : Signature) (place : ℕ) (name : Text) (object type : ℕ)
      → BeginsWith words line signature
      → slice_get signature.params place ≡ Some type
      → HasWord line (suc place) name
      → IsNumberOf entry_name words.objects name object
      → is_object_of words object type ≡ false
      → Breaks words line (suc place) rule.WrongType

-- the order of the rules of names, of which the first is told where one word breaks several
abbrev pub rank : TextRule → ℕ
rank rule.Twice = 0
rank rule.TypeCycle = 1
rank rule.Undeclared = 2
rank rule.WrongArity = 3
rank rule.WrongType = 4
rank _ = 5

-- no word of the line breaks a rule
abbrev pub IsSound : Vocabulary → Words → Type 0
IsSound words line = (place : ℕ) (broken : TextRule) → ¬ Breaks words line place broken

-- the fault is the first rule that the line's first faulty word breaks, at that word
pub record IsFirstIn (words : Vocabulary) (line : Words) (fault : TextFault) : Type 0 where
  pub place : ℕ
  pub stands : slice_get line place ≡ Some (fault.word, fault.at)
  pub breaks : Breaks words line place fault.rule
  pub before : (earlier : ℕ) (broken : TextRule) → earlier < place
      → ¬ Breaks words line earlier broken
  pub least : (broken : TextRule) → Breaks words line place broken → rank fault.rule ≤ rank broken

-- the fault is the first of the first line that has one
pub data IsFirstMisnamed (words : Vocabulary) : List PlanLine → TextFault → Type 0 where
  here : {line : PlanLine} {lines : List PlanLine} {fault : TextFault}
      → IsFirstIn words line.words fault
      → IsFirstMisnamed words (line ∷ lines) fault
  later : {line : PlanLine} {lines : List PlanLine} {fault : TextFault}
      → IsSound words line.words
      → IsFirstMisnamed words lines fault
      → IsFirstMisnamed words (line ∷ lines) fault

-- ---- whole texts

-- the bytes are the text of a plan over the vocabulary
pub record IsPlanText (words : Vocabulary) (bytes : List ℕ) (plan : Plan) : Type 0 where
  pub lines : List PlanLine
  pub spelled : SpellsPlan bytes lines
  pub steps : IsPlan words lines plan.steps

-- the first fault of the bytes: where they leave the form of a plan, and else the first at a name
pub data IsFirstFault (words : Vocabulary) (bytes : List ℕ) (fault : TextFault) : Type 0 where
  form : LeavesPlan bytes fault → IsFirstFault words bytes fault
  names : (lines : List PlanLine)
      → SpellsPlan bytes lines
      → IsFirstMisnamed words lines fault
      → IsFirstFault words bytes fault
