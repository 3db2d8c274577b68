pub mod Patch
