-- The test of unused entries, and what is proved of it.
pub mod Entries
pub mod Numbers
