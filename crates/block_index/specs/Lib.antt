pub mod Blocks
pub mod Edit
pub mod Groups
pub mod Search
pub mod Taking
