pub mod Proposed
