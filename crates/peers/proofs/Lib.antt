-- Laws of the tests of the peers.
pub mod Marks
pub mod PeerLaws
pub mod Waiters
