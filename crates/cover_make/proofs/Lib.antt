mod LiteralsLaws
mod CubesLaws
mod ExpansionLaws
mod ExpansionsLaws
mod IrredundantLaws
mod TailsLaws
mod CoverLaws
pub mod Tools
