-- What is proved of these definitions.
pub mod Directory
pub mod Pointers
