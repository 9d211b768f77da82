-- Laws of tests, of the numbers below n, and of bits.
pub mod Tests
pub mod Below
pub mod Listed
pub mod BitLaws
