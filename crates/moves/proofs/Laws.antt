-- What is proved of these definitions.
pub mod Moving
pub mod Moves
