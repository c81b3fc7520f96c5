pub mod Asked
pub mod Closing
pub mod Written
