pub mod Counting
pub mod Cuts
pub mod Views
pub mod Fronts
pub mod Through
