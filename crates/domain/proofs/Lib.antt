-- Laws of the definitions, leaves first.
pub mod Refusals
pub mod Accepted
