-- What is proved of these definitions.
pub mod Findings
