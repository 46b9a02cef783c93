-- What the proofs of the functions cite.
pub mod Seen
pub mod Told
pub mod Whole
pub mod Lines
