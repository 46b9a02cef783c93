-- What contracts inside cite.
pub mod Laying
