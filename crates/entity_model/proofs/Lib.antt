mod Number
pub mod IdReading
pub mod PartIds
