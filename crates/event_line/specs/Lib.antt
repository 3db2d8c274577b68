pub mod Pieces
pub mod Plain
pub mod Line
pub mod Query
pub mod Time
