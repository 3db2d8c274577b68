pub mod Parts
pub mod Streams
pub mod Texts
