-- Columns of a section, what reading a file answers, and what is proved of these.
pub mod Columns
pub mod Reading
