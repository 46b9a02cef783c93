-- The law of the loops.
pub mod Cleared
