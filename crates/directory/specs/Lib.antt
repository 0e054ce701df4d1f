-- The refusals 1 to 3 of a file, a section as a part of it, and what is proved of these.
pub mod Directory
pub mod Pointers
