-- What the functions' proofs cite, what is claimed of a verdict, and fixed cases.
pub mod Checks
pub mod Laws
pub mod Claim
pub mod Cases
