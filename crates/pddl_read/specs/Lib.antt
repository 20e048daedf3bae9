pub use Rattle.pddl_text.specs.Answers
pub use Rattle.pddl_names.specs.PlanNames
pub mod Texts
