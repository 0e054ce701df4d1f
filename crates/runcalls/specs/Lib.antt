-- The answers of the runs by the cases that their code tells apart.
pub mod Answers
