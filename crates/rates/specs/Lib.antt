-- Rates over ranges of links, and what is proved of them.
pub mod Links
