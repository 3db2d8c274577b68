pub mod AnswerLemmas
pub mod ChangedEntities
pub mod ChangedMaps
pub mod ChangedPages
pub mod EntityPages
pub mod Entried
pub mod Rows
pub mod Splitting
