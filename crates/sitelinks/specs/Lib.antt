pub mod Article
pub mod Language
pub mod Names
pub mod Project
pub mod Replaced
pub mod Site
pub mod Special
