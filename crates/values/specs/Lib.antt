-- The values of sources, and what is proved of them.
pub mod Sources
