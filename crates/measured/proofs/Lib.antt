-- Triangles inside the domain, and the claim.
pub mod Edges
pub mod Inside
pub mod Claim
