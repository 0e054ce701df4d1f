-- What the proofs of the code go by.
pub mod RunningTests
pub mod Answers
