pub mod Least
pub mod Middle
pub mod Cells
pub mod Ranges
pub mod Places
pub mod Alike
pub mod Example
