-- The theorem of order 1.
pub mod RoundTrip
