pub mod Net
pub mod Answers
pub mod Stage
pub mod Search
pub mod Ending
pub mod Finish
pub mod Numbered
