pub mod Values
pub mod Formed
pub mod VocabularyFirsts
pub mod VocabularyTypes
pub mod VocabularyLists
