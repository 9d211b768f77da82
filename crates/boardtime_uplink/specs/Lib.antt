-- What the contracts of `boardtime_uplink` cite.
pub mod Commands
