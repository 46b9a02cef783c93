-- Laws of the definitions, leaves first.
pub mod Laid
pub mod Plain
pub mod RootBounds
pub mod QuotientBounds
pub mod Judged
pub mod Listing
pub mod Reached
