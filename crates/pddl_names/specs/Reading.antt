-- How the words of plan lines are read, as functions on lists.
use Rattle.std.specs.Prelude.{ℕ, ◌≡◌, ◌==◌, List, [], ◌∷◌, ◌++◌, length, Option, None, Some, Result}
use Rattle.std.specs.Prelude.{Ok, Err, slice_get, if◌then◌else◌}
use Rattle.std.specs.Option.{option_map_or}
use Rattle.mre_base.specs.declared.text.Text.{Text}
use Rattle.pddl_text.specs.declared.fault.TextFault.{TextFault}
use Rattle.pddl_text.specs.declared.fault.TextRule.{TextRule}
use Rattle.pddl_text.specs.declared.fault.TextRule.TheVariants as rule
use Rattle.pddl_text.specs.declared.fault.ReadStop.{ReadStop}
use Rattle.pddl_text.specs.declared.fault.ReadStop.TheVariants as stop
use Rattle.pddl_text.specs.declared.place.Place.{Place}
use Rattle.pddl_text.specs.declared.plan.PlanLine.{PlanLine}
use Rattle.pddl_text.specs.PlanReading.{lines_of}
use Rattle.pddl_text.specs.Plans.{Words}
use Rattle.model_kit.specs.declared.action.GroundAction.{GroundAction}
use Rattle.model_kit.specs.declared.action.Plan.{Plan}
use Rattle.model_kit.specs.declared.vocabulary.Signature.{Signature}
use Rattle.model_kit.specs.declared.vocabulary.Vocabulary.{Vocabulary}
use Rattle.model_kit.specs.Vocabulary.{is_object_of}
use Rattle.pddl_names.specs.Numbers.{number_of, entry_name, word_name}

-- the rule is broken at this word
abbrev pub broken_at : Text × Place → TextRule → TextFault
broken_at word broken = record { at = word.1; rule = broken; word = word.0 }

-- this fault is answered, unless memory ran out
abbrev pub Answers : ReadStop → TextFault → Type 0
Answers (stop.Fault fault) due = fault ≡ due
Answers stop.NoMemory due = Unit {0}

-- what is made of the value that a reading gives, where it gives one
abbrev pub with_value : {A B : Type 0} → Result A TextFault → (A → Result B TextFault)
    → Result B TextFault
with_value (Ok value) next = next value
with_value (Err fault) next = Err fault

-- what is made of the number of a name, where it has one; else the word is undeclared
abbrev pub with_number : {B : Type 0} → Text × Place → Option ℕ → (ℕ → Result B TextFault)
    → Result B TextFault
with_number word None next = Err (broken_at word rule.Undeclared)
with_number word (Some number) next = next number

-- the object that the word names, due to be of this type or of one below it
abbrev pub object_at : Vocabulary → Text × Place → ℕ → Result ℕ TextFault
object_at words word type = with_number word (number_of entry_name words.objects word.0)
    (λ object. if is_object_of words object type then Ok object else Err
    (broken_at word rule.WrongType))

-- the objects that the words name, which must be of these types, after those so far
abbrev pub objects_from : Vocabulary → List ℕ → Words → List ℕ → Result (List ℕ) TextFault
objects_from words so_far (word ∷ rest) (type ∷ types) =
    with_value (object_at words word type)
    (λ object. objects_from words (so_far ++ object ∷ []) rest types)
objects_from words so_far _ _ = Ok so_far

-- the parameters' types of the action with this number
abbrev pub params_of : Vocabulary → ℕ → List ℕ
params_of words schema =
    option_map_or (λ (s : Signature). s.params) (slice_get words.actions schema) []

-- the step of an action with the objects that the words after its name give
abbrev pub step_with : Vocabulary → Text × Place → Words → ℕ → Result GroundAction TextFault
step_with words head rest schema =
    if length rest == length (params_of words schema) then
    with_value (objects_from words [] rest (params_of words schema))
    (λ objects. Ok (record { schema = schema; objects = objects }))
    else Err (broken_at head rule.WrongArity)

-- the step of a line that begins with this word
abbrev pub step_of : Vocabulary → Text × Place → Words → Result GroundAction TextFault
step_of words head rest =
    with_number head (number_of word_name words.actions head.0) (step_with words head rest)

-- the steps of lines, after those so far; each line has a word
abbrev pub line_step : Vocabulary → Words → Result GroundAction TextFault
line_step words [] = Ok (record { schema = 0; objects = [] })
line_step words (head ∷ rest) = step_of words head rest

abbrev pub steps_from : Vocabulary → List GroundAction → List PlanLine
    → Result (List GroundAction) TextFault
steps_from words so_far [] = Ok so_far
steps_from words so_far (line ∷ lines) =
    with_value (line_step words line.words) (λ step. steps_from words (so_far ++ step ∷ []) lines)

-- the plan that lines are
abbrev pub plan_of : Vocabulary → List PlanLine → Result Plan TextFault
plan_of words lines =
    with_value (steps_from words [] lines) (λ steps. Ok (record { steps = steps }))

-- what the bytes of a whole plan are read as
abbrev pub read_of : Vocabulary → List ℕ → Result Plan TextFault
read_of words bytes = with_value (lines_of bytes) (plan_of words)
