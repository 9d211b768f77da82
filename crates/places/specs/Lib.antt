-- The places of the set bits of a mask.
pub mod Places
