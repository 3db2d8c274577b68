pub mod Gives
pub mod Snak
pub mod Statement
pub mod Statements
