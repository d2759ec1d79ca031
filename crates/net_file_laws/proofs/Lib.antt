pub mod MetLaws
pub mod RoundTrip
