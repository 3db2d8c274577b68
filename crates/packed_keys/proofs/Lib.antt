pub mod Cut
pub mod Halving
pub mod Numbers
pub mod Orders
pub mod Runs
pub mod Searching
