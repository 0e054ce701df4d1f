-- What the test of a state answers, and what is proved of it.
pub mod Testing
