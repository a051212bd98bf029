pub mod Calls
pub mod FrameCalls
pub mod FrameFields
pub mod Promise
pub mod Starred
pub mod Again
