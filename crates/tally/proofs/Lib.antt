-- Laws of tallies.
pub mod Told
