-- Laws of the calendar.
pub mod YearLaws
pub mod MonthLaws
pub mod DateLaws
pub mod MomentLaws
pub mod NarrowLaws
pub mod ConversionLaws
