pub mod Blocks
pub mod Class
pub mod Length
pub mod Peak
pub mod Region
pub mod Shelf
pub mod Shelves
