pub mod Watermarks
pub mod Buffered
