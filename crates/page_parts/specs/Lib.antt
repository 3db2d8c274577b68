pub mod Apart
pub mod Codes
pub mod InOne
pub mod Marked
pub mod Parts
pub mod Row
pub mod Rows
