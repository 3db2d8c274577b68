pub mod Contents
pub mod FirstBytes
pub mod Found
pub mod Pieces
pub mod ReadBack
pub mod Reading
