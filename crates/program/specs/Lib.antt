-- What the contracts of `program` cite, and what is claimed of the program's whole output.
pub mod Turning
pub mod Reading
pub mod Program
pub mod Served
