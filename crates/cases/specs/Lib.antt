-- What a reader must believe, leaves first.
pub mod Starred
pub mod Tries
pub mod Texts
pub mod Rules
