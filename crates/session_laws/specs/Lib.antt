pub mod Chains
pub mod Complete
pub mod Killed
pub mod Live
pub mod Plans
pub mod Reruns
