pub mod BeliefPropagation
pub mod Propagates
pub mod DecodeSoft
pub mod Decode
pub mod ListDecode
pub mod Decodes
pub mod ListDecodes
pub mod Promise
