-- Document 01's numbers by name. Its plan file: the format, its rules as tests and as propositions, the refusals 1 to 9, the section view, the encoding,
-- where each number stands, and what is proved of these. Their worked examples stand in the crate `workedexamples`.
pub mod Lists
pub mod Numbers
pub mod Format
pub mod Tests
pub mod Refusals
pub mod Encoding
pub mod Rules
pub mod Unused
pub mod Places
pub mod Idle
pub mod ExampleTables
pub mod ExampleFiles
pub mod Kinds
