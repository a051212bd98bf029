pub mod Held
pub mod Malformed
pub mod Misencoded
pub mod LentCode
pub mod Sound
