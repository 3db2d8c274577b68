pub mod Beside
pub mod OthersTexts
pub mod Fronts
pub mod Indexed
pub mod Lying
