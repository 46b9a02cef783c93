-- What contracts inside cite, leaves first.
pub mod Axis
pub mod CellBounds
