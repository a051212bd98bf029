pub mod RateDegrees
pub mod Rates
pub mod RateCode
pub mod Building
pub mod InSlices
pub mod Listed
pub mod Narrow
pub mod Theorem
