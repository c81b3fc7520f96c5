mod MembersLaws
mod WordLaws
mod SetLaws
mod CubeLaws
mod LiteralLaws
mod CountLaws
pub mod Tools
