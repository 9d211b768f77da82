-- The waiting peers by tag, and the line that lists them.
pub mod ByTag
pub mod Waiting
