pub mod Apart
pub mod Merged
pub mod MergedLines
pub mod OneLine
pub mod Telling
