pub mod Reading
pub mod Routes
pub mod Routing
