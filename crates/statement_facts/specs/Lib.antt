pub mod Label
pub mod Node
pub mod Role
pub mod Ranking
