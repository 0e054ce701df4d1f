-- Numbers of 32 bits in lists of bytes. Definitions, worked examples, and what is proved of these.
pub mod Word
pub mod Putting
