mod PassingLaws
mod ReadingLaws
pub mod Tools
