-- Laws of the places of a mask.
pub mod Lowest
pub mod Passed
