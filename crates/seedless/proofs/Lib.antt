pub mod Laws
pub mod Nothing
pub mod Threes
pub mod Reordering
pub mod Listed
