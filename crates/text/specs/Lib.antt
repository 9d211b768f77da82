-- What the contracts of `text` cite.
pub mod Words
pub mod Output
