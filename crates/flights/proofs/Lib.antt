-- Laws of flight times.
pub mod FlightLaws
