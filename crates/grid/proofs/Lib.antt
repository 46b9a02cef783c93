pub mod Kept
pub mod Sequence
pub mod Near
