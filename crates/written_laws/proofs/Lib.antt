pub mod Bounds
pub mod Chains
pub mod Readable
pub mod Sides
pub mod Streamed
mod GivenBack
mod Loadable
mod LoadedRoom
mod OneRefusal
