pub mod Coefficients
pub mod Built
pub mod Descending
pub mod Parts
pub mod Sizes
pub mod EvenDegrees
pub mod New
pub mod Buildable
