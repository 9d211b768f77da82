-- The log, courses, and demand 3.
pub mod Log
pub mod Course
pub mod Moments
pub mod Demand3
pub mod Witness
