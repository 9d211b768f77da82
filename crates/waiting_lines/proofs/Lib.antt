-- Laws of the order in which the waiting peers are listed, and of the line.
pub mod OldestLaws
pub mod ByTagLaws
pub mod PeersLaws
pub mod LengthLaws
