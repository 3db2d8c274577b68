pub mod Fit
pub mod Iris
pub mod NodesFit
