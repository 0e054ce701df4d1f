-- What the section writers ask, and what is proved of them.
pub mod Entries
