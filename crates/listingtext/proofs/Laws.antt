-- What is proved of these definitions.
pub mod Decimals
pub mod Library
pub mod Lines
pub mod Printing
pub mod Signs
pub mod Sizes
pub mod Strings
