-- What a keeper holds of its peers.
pub mod Peers
pub mod Parts
