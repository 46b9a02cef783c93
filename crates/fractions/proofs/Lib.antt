-- Laws of greatest divisors and of lowest terms.
pub mod Divisors
pub mod LowestTerms
