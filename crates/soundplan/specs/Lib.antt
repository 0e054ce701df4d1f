-- The test of a plan's sections, and what is proved of it.
pub mod Sections
