pub mod Field
pub mod FieldSum
pub mod Multiples
pub mod SplitMix64
pub mod DegreeRows
