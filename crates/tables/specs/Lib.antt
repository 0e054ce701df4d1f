-- The tables of a plan, and what is proved of them.
pub mod Columns
