-- What the contracts of `image` cite.
pub mod Bytes
pub mod Layout
pub mod Example
