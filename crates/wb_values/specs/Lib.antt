pub mod Calendar
pub mod Decimal
pub mod GregorianDay
pub mod Literal
pub mod Point
pub mod Written
