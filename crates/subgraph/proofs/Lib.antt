pub mod Owning
pub mod Placed
pub mod Routed
pub mod Sections
pub mod Stepping
pub mod Stored
pub mod Versions
