pub mod Adjacency
pub mod PickMin
pub mod Search
pub mod Growth
pub mod IsTable
pub mod Rows
pub mod Served
