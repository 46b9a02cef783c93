-- What is found, on whichever path.
pub mod Finding
