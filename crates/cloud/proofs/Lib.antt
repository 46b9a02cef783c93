-- Laws about the definitions of specs/, which the functions' proofs cite.
pub mod Lines
pub mod LineFeeds
pub mod Stored
pub mod Answer
pub mod Examples
