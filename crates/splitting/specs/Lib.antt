pub mod Codes
pub mod Filling
pub mod Graphs
