pub mod Rate
pub mod RateCode
pub mod Slices
pub mod NFor
pub mod DegreesFor
pub mod CodeAt
pub mod Promise
