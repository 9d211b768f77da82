-- Laws about the definitions of specs/.
pub mod Digits
pub mod GroupLaws
pub mod Reading
pub mod GroupReading
pub mod Answers
pub mod Numerals
pub mod SignedNumerals
pub mod Sign
pub mod RoundTrip
pub mod PaperNumerals
