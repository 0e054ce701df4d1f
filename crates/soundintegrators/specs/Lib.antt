-- The test of one integrator, and what is proved of it.
pub mod Figures
