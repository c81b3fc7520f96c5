mod Lines
mod Parts
mod CellLaws
mod EitherLaws
mod BothLaws
mod WithoutLaws
pub mod Tools
