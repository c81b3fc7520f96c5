pub mod Literals
pub mod Cubes
pub mod Cover
pub mod Tails
