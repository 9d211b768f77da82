-- What the contracts of `dates` cite.
pub mod DateText
pub mod DateReading
