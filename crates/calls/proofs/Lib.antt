pub mod Refusals
pub mod Parts
