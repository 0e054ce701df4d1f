-- Due ticks, positions and the status as the code works them out, and what is proved of them.
pub mod Ticks
pub mod Soonest
pub mod Status
