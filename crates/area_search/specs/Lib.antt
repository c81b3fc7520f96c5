pub mod Answer
pub mod Progress
pub mod Searched
