-- What the proofs of the code go by.
pub mod EarlyReturns
pub mod Unused
