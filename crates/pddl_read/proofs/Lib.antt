pub mod Once
pub mod Stopped
pub mod Few
pub mod DomainTexts
pub mod ProblemTexts
