-- What the proofs of the functions cite.
pub mod Scanned
pub mod Numbers
pub mod Outcome
