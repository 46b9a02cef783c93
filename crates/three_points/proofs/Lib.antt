pub mod Points
pub mod Measured
pub mod Low
pub mod Refused
