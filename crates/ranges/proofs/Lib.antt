-- Laws of the definitions and of tests.
pub mod Tests
pub mod Range
pub mod Number
