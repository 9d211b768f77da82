-- Flight times and their limit.
pub mod Flights
