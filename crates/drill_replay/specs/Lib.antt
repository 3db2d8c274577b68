pub mod Playing
pub mod Summary
pub mod Trees
pub mod Told
pub mod Drill
pub mod Source
