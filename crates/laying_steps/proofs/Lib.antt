pub mod Flags
pub mod Work
