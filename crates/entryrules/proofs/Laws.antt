-- What the proofs of the code go by.
pub mod Comparing
pub mod Layout
pub mod Testing
pub mod ChecksInOrder
