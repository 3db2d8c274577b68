mod KeptParts
mod Names
pub mod NamesFit
mod Alone
mod Highest
mod Raising
