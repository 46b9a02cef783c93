pub mod Anew
