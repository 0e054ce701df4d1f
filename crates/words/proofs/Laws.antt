-- What is proved of these definitions.
pub mod Reading
pub mod Writing
pub mod Flat
pub mod Signs
pub mod Putting
pub mod Library
