-- The line of each answer, and what its writer does.
pub mod Answers
pub mod Writing
