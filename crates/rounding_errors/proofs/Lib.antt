-- Rounding errors counted, what rounding a fraction adds, and what each operation does, leaves first.
pub mod Near
pub mod Rounding
pub mod Operations
pub mod Signed
