pub mod Documents
pub mod Terms
pub mod Trees
