pub mod Finders
pub mod Folded
pub mod Folding
pub mod Kit
pub mod Put
pub mod Shrinking
pub mod Splitting
pub mod Tried
