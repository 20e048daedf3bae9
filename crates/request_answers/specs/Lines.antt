-- The status and the printed lines of each stop.
use Rattle.std.specs.Prelude.{◌≡◌, ◌<◌, ℕ, List, [], ◌∷◌, ◌++◌, map, codes, decimal, slice_index_or}
use Rattle.pddl_text.specs.declared.fault.TextFault.{TextFault}
use Rattle.pddl_text.specs.declared.fault.TextRule.{TextRule}
use Rattle.pddl_text.specs.declared.fault.TextRule.TheVariants as rule
use Rattle.request_answers.specs.declared.stop.AnswerStop.{AnswerStop}
use Rattle.request_answers.specs.declared.stop.AnswerStop.TheVariants.{Misread, Disagree}
use Rattle.request_answers.specs.declared.stop.AnswerStop.TheVariants.{TooManyParameters}
use Rattle.request_answers.specs.declared.stop.AnswerStop.TheVariants.{TooManyObjects}
use Rattle.request_answers.specs.declared.stop.AnswerStop.TheVariants.{TooManyDifferences}
use Rattle.request_answers.specs.declared.stop.AnswerStop.TheVariants.{TooManySteps, TooManyActions}
use Rattle.request_answers.specs.declared.stop.AnswerStop.TheVariants.{TooManyAtoms, NotValid}
use Rattle.request_answers.specs.declared.stop.AnswerStop.TheVariants.{Unbuilt, NotCheapest}
use Rattle.request_answers.specs.declared.stop.AnswerStop.TheVariants.{NoMemory}
use Rattle.request_answers.specs.declared.stop.PlanFault.{PlanFault}
use Rattle.request_answers.specs.declared.stop.PlanFault.TheVariants.{StepNeeds, StepHasNoCost}
use Rattle.request_answers.specs.declared.stop.PlanFault.TheVariants.{EndsWithout}

-- the status with which the program ends
abbrev pub status_of : AnswerStop → ℕ
status_of (Misread file fault) = 5
status_of Unbuilt = 5
status_of (Disagree fault) = 6
status_of (TooManyParameters found) = 7
status_of (TooManyObjects found) = 7
status_of (TooManyDifferences found) = 7
status_of (TooManySteps found) = 7
status_of TooManyActions = 7
status_of TooManyAtoms = 7
status_of NoMemory = 9
status_of (NotValid fault) = 10
status_of (NotCheapest cost other steps) = 11

-- the place of the plan among the files, counted from 0
abbrev pub plan_place : ℕ
plan_place = 4

-- the name at a place, counted from 0
abbrev pub name_at : List (List ℕ) → ℕ → List ℕ
name_at names file = slice_index_or names file []

-- a text with its line feed
abbrev pub line : List ℕ → List ℕ
line text = text ++ 10 ∷ []

-- the bytes are a text with its line feed
abbrev pub IsLine : List ℕ → Type 0
IsLine bytes = (text : List ℕ) × (bytes ≡ line text)

-- the printed name of a rule of texts
abbrev pub rule_name : TextRule → List ℕ
rule_name rule.Byte = codes "byte"
rule_name rule.Close = codes "close"
rule_name rule.Deep = codes "deep"
rule_name rule.Open = codes "open"
rule_name rule.Form = codes "form"
rule_name rule.Unsupported = codes "unsupported"
rule_name rule.NotWhole = codes "not-whole"
rule_name rule.Reserved = codes "reserved"
rule_name rule.Twice = codes "twice"
rule_name rule.TypeCycle = codes "type-cycle"
rule_name rule.Undeclared = codes "undeclared"
rule_name rule.WrongArity = codes "wrong-arity"
rule_name rule.WrongType = codes "wrong-type"

-- a blank and the word, or nothing if there is no word
abbrev pub after_rule : List ℕ → List ℕ
after_rule [] = []
after_rule (byte ∷ word) = codes " " ++ (byte ∷ word)

-- the line of a text's first fault: `mre: NAME:LINE:COLUMN: RULE WORD`
abbrev pub text_line : List ℕ → TextFault → List ℕ
text_line name fault =
    codes "mre: " ++ (name ++ (codes ":"
    ++ (decimal fault.at.line ++ (codes ":" ++ (decimal fault.at.column
    ++ (codes ": " ++ (rule_name fault.rule ++ line (after_rule fault.word))))))))

-- the line of a plan's fault
abbrev pub fault_line : PlanFault → List ℕ
fault_line (StepNeeds step atom) =
    codes "mre: plan step " ++ (decimal step ++ (codes " needs " ++ line atom))
fault_line (StepHasNoCost step) =
    codes "mre: plan step " ++ (decimal step ++ line (codes " has no cost"))
fault_line (EndsWithout atom) = codes "mre: plan ends without " ++ line atom

-- the first line of a stop, for files with these names
abbrev pub line_of : List (List ℕ) → AnswerStop → List ℕ
line_of names (Misread file fault) = text_line (name_at names file) fault
line_of names Unbuilt =
    codes "mre: " ++ (name_at names plan_place ++ line (codes ":1:1: unbuilt"))
line_of names (Disagree fault) =
    codes "mre: models disagree: planner "
    ++ (fault.planner ++ (codes ", user " ++ line fault.user))
line_of names (TooManyParameters found) =
    codes "mre: parameters " ++ (decimal found ++ line (codes " limit 8"))
line_of names (TooManyObjects found) =
    codes "mre: objects " ++ (decimal found ++ line (codes " limit 1000"))
line_of names (TooManyDifferences found) =
    codes "mre: differences " ++ (decimal found ++ line (codes " limit 256"))
line_of names (TooManySteps found) =
    codes "mre: plan steps " ++ (decimal found ++ line (codes " limit 10000"))
line_of names TooManyActions = line (codes "mre: ground actions 50001 limit 50000")
line_of names TooManyAtoms = line (codes "mre: atoms 4097 limit 4096")
line_of names (NotValid fault) = fault_line fault
line_of names (NotCheapest cost other steps) =
    codes "mre: plan costs " ++ (decimal cost
    ++ (codes ", these lines cost " ++ (decimal other ++ line (codes ":"))))
line_of names NoMemory = line (codes "mre: out of memory")

-- the lines after it: one for each step of a cheaper list
abbrev pub further_lines : AnswerStop → List (List ℕ)
further_lines (NotCheapest cost other steps) = map line steps
further_lines _ = []

-- all lines of a stop
abbrev pub lines_of : List (List ℕ) → AnswerStop → List (List ℕ)
lines_of names stop = line_of names stop ∷ further_lines stop

-- a file that the stop names is among this number of files
abbrev pub IsOfFile : ℕ → AnswerStop → Type 0
IsOfFile count (Misread file fault) = file < count
IsOfFile count Unbuilt = plan_place < count
IsOfFile count _ = Unit {0}
