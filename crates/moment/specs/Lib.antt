-- What the contracts of `moment` cite.
pub mod Moment
pub mod Intervals
