-- What is proved of these definitions.
pub mod Arithmetic
pub mod Barring
pub mod LeastDue
pub mod OnePass
pub mod Statuses
pub mod Dues
