pub mod State
pub mod Record
pub mod Tabled
pub mod Standing
pub mod Table
pub mod Entry
pub mod Side
