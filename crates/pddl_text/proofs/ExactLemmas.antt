-- What follows for a reader's answers if a reading on lists gives exactly what two relations say of
-- the bytes.
use Rattle.std.proofs.Common.{◌≡◌, Result, Ok, Err, refl, inl, inr}
use Rattle.std.specs.Prelude.{◌⊎◌, IfOk}
use Rattle.pddl_text.specs.declared.fault.TextFault.{TextFault}
use Rattle.pddl_text.specs.declared.fault.ReadStop.{ReadStop}
use Rattle.pddl_text.specs.declared.fault.ReadStop.TheVariants as stop
use Rattle.pddl_text.specs.Answers.{IfFault, AnswersOk, AnswersFault, Gives}

-- the reading gives a value exactly if the bytes spell it, and a fault exactly if it is theirs
pub record IsExact {A : Type 0} (read : Result A TextFault) (Spells : A → Type 0) (Breaks : TextFault → Type 0) : Type 0 where
  pub spelled : (value : A) → Spells value → read ≡ Ok value
  pub is_spelled : (value : A) → read ≡ Ok value → Spells value
  pub broken : (fault : TextFault) → Breaks fault → read ≡ Err fault
  pub is_broken : (fault : TextFault) → read ≡ Err fault → Breaks fault

module _ {A : Type 0} (read : Result A TextFault) (Spells : A → Type 0) (Breaks : TextFault → Type 0) (exact : IsExact read Spells Breaks) where
  value-inj : (one two : A) → read ≡ Ok one → read ≡ Ok two → one ≡ two
  value-inj one two first second = cc

  fault-inj : (one two : TextFault) → read ≡ Err one → read ≡ Err two → one ≡ two
  fault-inj one two first second = cc

  apart : (value : A) (fault : TextFault) → read ≡ Ok value → read ≡ Err fault → ⊥
  apart value fault first second = cc

  pub same_value : (one two : A) → Spells one → Spells two → one ≡ two
  same_value one two first second = value-inj one two (exact.spelled one first) (exact.spelled two second)

  pub same_fault : (one two : TextFault) → Breaks one → Breaks two → one ≡ two
  same_fault one two first second = fault-inj one two (exact.broken one first) (exact.broken two second)

  pub never_both : (value : A) (fault : TextFault) → Spells value → Breaks fault → ⊥
  never_both value fault spells breaks = apart value fault (exact.spelled value spells) (exact.broken fault breaks)

  either_of : (result : Result A TextFault) → read ≡ result → ((value : A) × Spells value) ⊎ ((fault : TextFault) × Breaks fault)
  either_of (Ok value) is = inl (value, exact.is_spelled value is)
  either_of (Err fault) is = inr (fault, exact.is_broken fault is)

  pub either : ((value : A) × Spells value) ⊎ ((fault : TextFault) × Breaks fault)
  either = either_of read refl

  pub gives_ok : (result : Result A ReadStop) → Gives result read → IfOk result (λ value. Spells value)
  gives_ok (Ok value) gives = exact.is_spelled value gives
  gives_ok (Err why) gives = tt

  pub gives_fault : (result : Result A ReadStop) → Gives result read → IfFault result (λ fault. Breaks fault)
  gives_fault (Ok value) gives = tt
  gives_fault (Err (stop.Fault fault)) gives = exact.is_broken fault gives
  gives_fault (Err stop.NoMemory) gives = tt

  pub gives_spelled : (result : Result A ReadStop) → Gives result read → (value : A) → Spells value → AnswersOk result value
  gives_spelled (Ok found) gives value spells = value-inj found value gives (exact.spelled value spells)
  gives_spelled (Err (stop.Fault fault)) gives value spells = apart value fault (exact.spelled value spells) gives
  gives_spelled (Err stop.NoMemory) gives value spells = tt

  pub gives_broken : (result : Result A ReadStop) → Gives result read → (fault : TextFault) → Breaks fault → AnswersFault result fault
  gives_broken (Ok found) gives fault breaks = apart found fault gives (exact.broken fault breaks)
  gives_broken (Err (stop.Fault found)) gives fault breaks = fault-inj found fault gives (exact.broken fault breaks)
  gives_broken (Err stop.NoMemory) gives fault breaks = tt

  -- what follows from the spelling only
  pub gives_also : (Q : A → Type 0) → ((value : A) → Spells value → Q value) → (result : Result A ReadStop) → Gives result read → IfOk result (λ value. Q value)
  gives_also Q weaker (Ok value) gives = weaker value (exact.is_spelled value gives)
  gives_also Q weaker (Err why) gives = tt
