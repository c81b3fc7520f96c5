mod Closing
mod Fronts
mod Sections
pub mod Tools
