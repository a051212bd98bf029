pub mod Graph
pub mod Matrix
pub mod Solutions
pub mod Elimination
pub mod Held
pub mod Standing
pub mod Encodable
