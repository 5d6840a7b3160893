pub mod Step
pub mod Kept
pub mod LetterTable
pub mod Computation
pub mod Sound
