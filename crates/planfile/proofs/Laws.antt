-- What is proved of these definitions.
pub mod ColumnLoops
pub mod Reading
pub mod Sections
