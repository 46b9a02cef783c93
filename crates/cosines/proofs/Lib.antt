-- Exact identities, the errors of squares and of cross products, the cosine's error, and the test, leaves first.
pub mod Exact
pub mod Magnitude
pub mod Component
pub mod Axes
pub mod Points
pub mod Chain
pub mod Lengths
pub mod Limit
pub mod Narrow
