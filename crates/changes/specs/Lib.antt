-- What the contracts of `changes` cite.
pub mod Changes
