mod Walks
mod Steps
mod Never
mod Reach
mod Borders
mod Decisions
mod Closed
mod Sides
mod Least
mod Refuted
mod Fits
mod Examples
mod StampLaws
mod FloodLaws
mod Larger
mod Plainly
pub mod Tools
