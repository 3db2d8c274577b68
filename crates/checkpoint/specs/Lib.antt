pub mod Archive
pub mod Causes
pub mod Fault
pub mod Keeping
pub mod Loading
pub mod Saved
