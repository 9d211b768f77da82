-- The theorem of order 1, proved, and the lines that order 4 names.
pub mod PaperLines
pub mod Theorem
