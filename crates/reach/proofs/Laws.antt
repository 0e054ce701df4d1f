-- What is proved of these definitions.
pub mod Some
pub mod Masks
pub mod Entries
pub mod Reached
pub mod TableLoops
