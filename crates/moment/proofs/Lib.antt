-- Laws of integers for `omega`, and of intervals.
pub mod Integers
pub mod IntervalLaws
pub mod BoundLaws
pub mod Within
