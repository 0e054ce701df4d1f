-- What is proved of these definitions.
pub mod Rewriting
pub mod Viewing
pub mod Tables
