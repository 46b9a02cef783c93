pub mod Bools
pub mod Bytes
pub mod Counts
pub mod Found
pub mod Members
