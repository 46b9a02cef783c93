-- Laws of the definitions, and what they refuse.
pub mod AreaBound
pub mod Refused
pub mod Tiny
