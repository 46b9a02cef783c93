-- Laws of figures and of seasons.
pub mod Additions
pub mod Ahead
pub mod Seasons
pub mod Terms
pub mod Cases
