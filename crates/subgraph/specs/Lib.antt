pub mod Codes
pub mod Entries
pub mod Graph
pub mod Laws
pub mod Placing
pub mod Sections
pub mod Split
