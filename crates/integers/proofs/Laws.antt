-- Laws of ℤ and of these definitions, and signed 64-bit locals.
pub mod Parts
pub mod Order
pub mod Signed64
pub mod Division
pub mod Range
