mod NamesLaws
mod NameLaws
mod LinesLaws
mod NumberLaws
mod SetsLaws
mod StateLaws
mod WordsLaws
mod ReachLaws
mod FinalLaws
mod AnswersLaws
mod SomeLaws
mod PlainTextLaws
mod PlainReadingLaws
pub mod Tools
