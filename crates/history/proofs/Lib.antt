-- Demand 3, proved: the invariant that ties the keeper to the log, and the theorem.
pub mod States
pub mod Invariant
pub mod Steps
pub mod Replies
pub mod Commands
pub mod Lines
pub mod Theorem
pub mod Witness
pub mod Moments
pub mod Starts
pub mod Counted
