-- What is proved of these definitions.
pub mod Header
pub mod Plans
pub mod SectionWriting
