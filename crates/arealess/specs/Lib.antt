-- What a reader must believe, leaves first.
pub mod Source
pub mod Arealess
