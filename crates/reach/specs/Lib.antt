-- The table of what a change reaches, and what is proved of it.
pub mod Table
