pub mod Laws
pub mod Leading
pub mod LeftOut
pub mod Steps
pub mod State
