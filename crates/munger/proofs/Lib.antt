pub mod Fit
pub mod FlatMap
pub mod Joined
pub mod Kept
pub mod MungedList
pub mod Namespaces
