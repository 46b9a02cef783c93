pub mod Laws
pub mod LeftOut
pub mod Seconds
pub mod Steps
pub mod State
pub mod Known
pub mod First
pub mod WithArea
