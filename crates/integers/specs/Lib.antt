-- The integers, as the cup simulator's rules use them: sizes, division that rounds down or up, ranges, and what is proved of these.
pub mod Parts
pub mod Division
pub mod Range
