pub mod Changing
pub mod Codes
pub mod Counted
pub mod Holders
pub mod Holding
pub mod Pieces
pub mod Roomed
pub mod Values
