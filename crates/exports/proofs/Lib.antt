-- The laws that tie two calls.
pub mod Reach
pub mod Faces
pub mod Origins
