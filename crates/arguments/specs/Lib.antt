pub mod Grammar
pub mod Items
pub mod Matching
pub mod Numbers
pub mod Options
pub mod Plan
pub mod Table
