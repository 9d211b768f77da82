-- Laws of the time line.
pub mod TimeLaws
