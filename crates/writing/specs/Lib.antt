-- Writes one after the other.
pub mod Puts
