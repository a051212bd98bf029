pub mod Held
pub mod Field
pub mod Answers
