-- What is proved of the calls for C and Rust, and what they answer beside the public calls.
pub mod Rewriting
pub mod Tables
