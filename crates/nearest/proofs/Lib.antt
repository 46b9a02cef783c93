-- Laws of the definitions, leaves first.
pub mod Cases
pub mod Lengths
pub mod Margin
pub mod AnyOrder
pub mod Scanning
pub mod Settling
