-- What a reader must believe, leaves first.
pub mod Origins
pub mod Sides
pub mod Turned
pub mod Pass
pub mod Inner
