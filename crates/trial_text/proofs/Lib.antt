mod Drawing
mod ReadingLaws
