pub mod Both
pub mod Either
pub mod Pictures
pub mod Without
