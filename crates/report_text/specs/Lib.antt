pub mod Pieces
pub mod Cells
pub mod Form
pub mod Report
pub mod Bounds
pub mod Reading
pub mod Expected
pub mod Writing
