pub mod Closed
pub mod Crossing
pub mod Defective
pub mod Failing
pub mod Fitting
pub mod Flood
pub mod Stamps
