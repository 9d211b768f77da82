-- What the contracts of `boardtime_lib` cite, and the statement about calls one after the other.
pub mod Images
pub mod Replay
