pub mod Choices
pub mod Decimals
pub mod Pairs
pub mod Places
