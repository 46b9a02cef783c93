pub mod Sums
pub mod Points
pub mod Totals
pub mod Least
pub mod Decide
pub mod Patches
pub mod Few
pub mod Example
