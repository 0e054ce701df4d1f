-- What lies ahead of a state, what a run answers, and what is proved of these.
pub mod Ahead
pub mod RunAnswer
