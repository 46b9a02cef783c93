-- Laws of the definitions, leaves first.
pub mod Widths
pub mod Holding
pub mod Parts
pub mod Own
