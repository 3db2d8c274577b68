pub mod Gained
pub mod Known
pub mod Written
