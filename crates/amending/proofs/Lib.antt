-- What rules that turn down more seeds lay, leaves first.
pub mod Fitting
pub mod Laying
pub mod Searching
pub mod Seeds
