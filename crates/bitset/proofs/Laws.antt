-- What is proved of these definitions.
pub mod Bits
pub mod Counts
pub mod Visiting
