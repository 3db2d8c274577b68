pub mod Failing
pub mod Lines
pub mod Memory
pub mod Streams
pub mod Taking
