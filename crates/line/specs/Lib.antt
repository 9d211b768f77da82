-- What a call with a line does.
pub mod Call
pub mod Examples
