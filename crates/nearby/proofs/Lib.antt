pub mod Laws
pub mod Ordered
pub mod Earlier
pub mod Keeping
pub mod Narrowing
pub mod Rest
