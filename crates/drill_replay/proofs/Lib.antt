pub mod Counting
pub mod Drills
pub mod Taking
pub mod Versions
mod Roomy
pub mod NeverFull
mod Counted
pub mod Covered
pub mod Meant
mod WrittenTrees
mod Parts
mod Printed
mod Unwound
pub mod Applying
pub mod Fits
pub mod Gathered
pub mod Named
pub mod Lengths
