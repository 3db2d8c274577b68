pub mod Counted
pub mod Counts
pub mod Orders
pub mod Patterns
