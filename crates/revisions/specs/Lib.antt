pub mod Revisions
pub mod Memory
