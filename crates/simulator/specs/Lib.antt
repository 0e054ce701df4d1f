-- The answers of the calls by the cases that their code tells apart.
pub mod Answers
