-- Laws of the definitions, and what they give at outside values.
pub mod Quality
pub mod Acceptance
pub mod Examples
