pub mod Reader
pub mod Written
