-- What is proved of these definitions.
pub mod Buffers
pub mod EventTurns
pub mod EventBytes
pub mod EntryTurns
pub mod Entries
pub mod Commands
pub mod MaskLoops
pub mod Outputs
