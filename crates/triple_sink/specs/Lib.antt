pub mod Gains
pub mod Subject
pub mod TermRef
