-- What is proved of these definitions.
pub mod Aheads
pub mod RunLoop
