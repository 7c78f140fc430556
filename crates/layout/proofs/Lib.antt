pub mod Records
pub mod Putting
pub mod RoundTrip
pub mod Fronts
