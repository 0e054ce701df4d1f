-- What the public calls answer, lists of run calls, the promises about them, and the proofs of these.
pub mod Calls
pub mod Lists
pub mod Sessions
pub mod Limits
pub mod Promises
