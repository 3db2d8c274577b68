pub mod FailingLaws
pub mod Pieces
pub mod LineFeeds
pub mod Taken
pub mod NextLine
pub mod LineLists
pub mod Refusals
pub mod NeededReads
