pub mod Iris
pub mod Verdict
pub mod Naming
pub mod Munging
pub mod Short
