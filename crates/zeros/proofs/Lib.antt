pub mod Cells
pub mod Grids
pub mod Clear
pub mod Arc
pub mod Quality
pub mod Call
pub mod Example
