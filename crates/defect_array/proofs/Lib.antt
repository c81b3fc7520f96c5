mod Placed
mod RowLaws
mod TakeLaws
mod ReadLaws
pub mod Tools
