pub mod Following
pub mod Fresh
pub mod Pieces
pub mod Placed
pub mod Printed
pub mod Roomed
