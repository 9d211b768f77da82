-- What a program that answers lines as they come does, however they come.
pub mod Stream
