mod Differing
mod Judged
mod SomeEnd
pub mod MostLemmas
pub mod Once
mod Printing
mod Pushed
pub mod Ending
pub mod OneEnd
mod Misreading
mod StopLemmas
mod ListLemmas
mod DueLemmas
mod QuestionLemmas
mod WholeLines
mod Grounded
