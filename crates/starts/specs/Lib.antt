-- What the start of a plan asks, and what is proved of it.
pub mod Starting
