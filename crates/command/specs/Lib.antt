-- What the contracts of `command` cite.
pub mod Forms
pub mod Spelling
pub mod Limits
pub mod Edges
pub mod Causes
pub mod Windows
