pub mod Answers
pub mod Changed
