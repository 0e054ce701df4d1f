-- What is proved of these definitions.
pub mod NodeSteps
pub mod SourceValues
pub mod DependentNodes
pub mod ReadOut
pub mod Copies
