pub mod ChangedPages
pub mod DifferingPages
pub mod Fit
pub mod Listing
pub mod Means
pub mod Parted
pub mod Rising
pub mod Telling
