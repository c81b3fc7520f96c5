pub mod Assignment
pub mod Members
pub mod Function
pub mod Rising
pub mod Cube
pub mod Word
