pub mod Radius
pub mod Stop
pub mod Cells
pub mod Claim
