-- "The machine" of document 01, step by step; the plain machine; sound states; and what is proved of them. Its worked examples are in the crate `workedexamples`.
pub mod Values
pub mod Due
pub mod Entries
pub mod Next
pub mod Held
pub mod Start
pub mod Reach
pub mod Instant
pub mod Status
pub mod Runs
pub mod Plain
pub mod Updates
pub mod Sound
pub mod SoundTest
