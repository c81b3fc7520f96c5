pub mod Words
pub mod Exit
