-- The section checks, and what is proved of them.
pub mod Checks
