mod TextLaws
mod WordsLaws
mod FormLaws
mod OriginLaws
mod SectionLaws
mod ShownLaws
mod RunLaws
mod VerdictLaws
mod GivesLaws
mod ReadLaws
mod PartsLaws
mod CursorLaws
mod WriteLaws
pub mod Tools
