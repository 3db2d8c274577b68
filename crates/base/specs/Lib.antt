pub mod Append
pub mod CowText
