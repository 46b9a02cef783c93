-- Laws of the definitions, leaves first.
pub mod Refused
pub mod Filled
pub mod Outcome
