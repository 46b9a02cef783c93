pub mod Faces
pub mod Walk
