-- The steps of an instant that set outputs and inputs and write its events, and what is proved of them.
pub mod Entries
pub mod Outputs
pub mod Events
