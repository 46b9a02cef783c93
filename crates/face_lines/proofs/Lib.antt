-- Laws about the definitions of specs/, which the functions' proofs cite.
pub mod Parts
pub mod Rows
pub mod Scanning
pub mod Storing
pub mod Examples
