-- What contracts inside cite.
pub mod Offers
