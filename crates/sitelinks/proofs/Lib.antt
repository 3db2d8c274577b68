pub mod Around
pub mod Characters
pub mod Fit
pub mod Languages
pub mod Names
pub mod Suffixes
