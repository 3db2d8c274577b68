pub mod Spelled
pub mod Differing
pub mod Found
pub mod Brackets
pub mod Readable
