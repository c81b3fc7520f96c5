mod Literals
mod PiecesLaws
mod PieceLaws
mod WriteLaws
mod TextLaws
mod DraftLaws
mod ReadLaws
mod NumberLaws
mod PrintedLaws
mod RoundTrip
pub mod Tools
