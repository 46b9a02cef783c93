pub mod Limit
pub mod Faces
