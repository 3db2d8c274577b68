pub mod Following
pub mod Input
pub mod Reading
pub mod Stop
pub mod Taking
