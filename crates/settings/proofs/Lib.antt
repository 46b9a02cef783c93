-- What holds of settings that are accepted.
pub mod Settled
