-- An instant, and what is proved of it.
pub mod Instants
