pub mod InStep
pub mod Keeping
pub mod Laid
pub mod Mapped
pub mod Swapped
pub mod Timed
