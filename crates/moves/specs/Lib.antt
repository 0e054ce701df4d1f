-- The step that moves integrators, and what is proved of it.
pub mod Motion
