-- What the contracts of `keeper` cite.
pub mod State
pub mod Refusals
pub mod Apply
pub mod Windows
