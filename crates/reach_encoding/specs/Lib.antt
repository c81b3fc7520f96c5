pub mod Encoding
pub mod Solved
pub mod Model
pub mod Decode
pub mod EncodeParts
pub mod ModelOf
