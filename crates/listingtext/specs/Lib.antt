-- What the listing program prints: numbers, lines, the laws of both, and worked examples.
pub mod Decimal
pub mod Lines
pub mod Printed
