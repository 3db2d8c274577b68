mod LineBack
pub mod LineLength
mod LineShape
mod TextBack
pub mod LineUtf8
mod LineWritable
pub mod LineTextBack
pub mod WholeBack
mod ReplayFits
pub mod FileBack
mod FileCut
mod TakenBack
mod ReplaySaved
mod Partly
mod PageParts
mod PageUtf8
mod PageText
