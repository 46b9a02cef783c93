pub mod Refusals
pub mod Throughout
pub mod Long
pub mod Slivers
