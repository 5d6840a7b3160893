pub mod Batches
pub mod Fault
pub mod Answers
pub mod Run
pub mod Hall
pub mod Work
pub mod Kept
