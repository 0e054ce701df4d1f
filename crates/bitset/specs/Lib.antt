-- Masks: a number read as the set of its set bits. Definitions, and the laws of bits, of counts and of visiting.
pub mod Counts
pub mod Mask
