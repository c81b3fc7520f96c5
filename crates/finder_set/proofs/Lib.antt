mod Asking
mod FoldLaws
mod Ordering
mod ShrinkingLaws
mod SplitLaws
mod TrialLaws
mod Wider
pub mod Tools
