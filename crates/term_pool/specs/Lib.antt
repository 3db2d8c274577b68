pub mod Counting
pub mod Front
pub mod Hashing
pub mod Index
pub mod Making
pub mod Occupant
pub mod Pool
