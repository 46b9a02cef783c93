-- What a reader must believe, leaves first.
pub mod Rounded
pub mod Root
pub mod Nearest
pub mod Order
pub mod Cut
pub mod Acos
pub mod Inner
