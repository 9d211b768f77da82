-- The numbers of refusals, and what a test that may refuse answers, as a number.
pub mod Refusal
