-- Laws of the rules: on sets of moments, on limits and widths, on verdicts, on what comes between ticks, and on windows.
pub mod Sets
pub mod Limits
pub mod Widths
pub mod VerdictLaws
pub mod BetweenTicks
pub mod Fits
pub mod WindowLaws
