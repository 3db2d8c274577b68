pub mod Datatype
pub mod Fields
pub mod Predicate
pub mod Prefix
pub mod Resource
pub mod Unreserved
