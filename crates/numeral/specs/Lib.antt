-- What the contracts of `numeral` cite.
pub mod Digits
pub mod Groups
pub mod Numerals
pub mod Progress
pub mod Reading
