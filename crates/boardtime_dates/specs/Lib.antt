-- What the contracts of `boardtime_dates` cite.
pub mod Calls
