-- The tables' theorems.
pub mod Clouds
pub mod Starred
pub mod Tries
pub mod Texts
pub mod Stl
pub mod Refused
pub mod Rules
