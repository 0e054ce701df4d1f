-- What is proved of these definitions.
pub mod EventLists
pub mod Ends
pub mod Joined
pub mod Fits
pub mod Answers
pub mod Loop
pub mod Strings
