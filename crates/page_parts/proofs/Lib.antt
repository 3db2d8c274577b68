pub mod Changed
pub mod Lifting
pub mod MarkedRows
pub mod Parting
pub mod Ranking
pub mod Sought
pub mod StayingRows
pub mod TermHomes
