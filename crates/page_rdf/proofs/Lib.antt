mod Capitals
pub mod Fit
pub mod SpokenFit
mod TypeNames
pub mod LexemeFit
