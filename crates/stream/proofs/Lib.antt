-- Laws about the definitions of specs/, and the theorem over every way of cutting the input into reads.
pub mod Alike
pub mod Splitting
pub mod Trimming
pub mod Counting
pub mod Answering
pub mod Turning
pub mod Ending
pub mod SoFar
pub mod Theorem
pub mod More
