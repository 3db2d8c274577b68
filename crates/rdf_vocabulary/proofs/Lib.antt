pub mod Escapes
pub mod Fit
pub mod Ids
pub mod NamesFit
pub mod Shared
