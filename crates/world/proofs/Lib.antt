pub mod DueEvent
pub mod Entries
pub mod Fit
pub mod Giving
pub mod Kept
pub mod OneVersion
pub mod PuttingIn
pub mod Shown
