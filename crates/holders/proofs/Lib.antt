pub mod ByVersion
pub mod Changing
pub mod Keyed
pub mod Owning
pub mod Pieced
pub mod Records
pub mod Rooming
pub mod Values
