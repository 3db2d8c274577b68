pub mod Blocks
pub mod Classes
pub mod Fresh
pub mod Peaks
pub mod Pieces
pub mod Shelves
pub mod Steps
