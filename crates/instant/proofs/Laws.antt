-- What is proved of these definitions.
pub mod Instants
pub mod Unread
