pub mod Each
pub mod Fit
pub mod Given
pub mod Labels
pub mod Members
