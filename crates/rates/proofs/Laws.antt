-- What is proved of these definitions.
pub mod Ranges
pub mod Sums
pub mod OwnRange
