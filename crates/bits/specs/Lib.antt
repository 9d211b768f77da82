-- Choices by a test, tests of the numbers below n, and bits of a mask.
pub mod Choice
pub mod Below
pub mod Bits
