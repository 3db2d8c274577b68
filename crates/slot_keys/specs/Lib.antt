pub mod Added
pub mod KeyCounts
pub mod Keys
pub mod Marks
pub mod Ranks
