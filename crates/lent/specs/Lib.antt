-- What the contract of `lent` cites.
pub mod Lent
