pub mod Name
pub mod Nodes
pub mod Said
pub mod Terms
