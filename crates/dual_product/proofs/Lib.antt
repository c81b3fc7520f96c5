mod ClashLaws
mod DualLaws
pub mod Tools
