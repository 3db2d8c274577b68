pub mod Mapped
pub mod More
pub mod Owners
pub mod Passing
pub mod Raising
pub mod Ranging
pub mod Turning
