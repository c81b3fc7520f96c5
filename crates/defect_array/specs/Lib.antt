pub mod Answering
pub mod Place
pub mod Reading
pub mod Rows
pub mod Taking
