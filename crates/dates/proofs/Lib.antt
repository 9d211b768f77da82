-- Laws about the definitions of specs/.
pub mod DateLaws
pub mod PlacedLaws
pub mod FitLaws
pub mod NamedDates
