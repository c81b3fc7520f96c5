pub mod Causes
pub mod Told
pub mod Passing
pub mod Laws
pub mod Firm
pub mod Pieces
pub mod Memory
