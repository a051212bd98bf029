pub mod Refusal
pub mod Parts
pub mod Reason
