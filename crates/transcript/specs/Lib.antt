pub mod Sections
