pub mod Exchanged
pub mod Merging
