pub mod Present
pub mod WithPriors
