-- What the plan writer answers and asks, and what is proved of it.
pub mod Header
pub mod Plans
