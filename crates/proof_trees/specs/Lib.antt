pub mod Proof
pub mod Laws
pub mod Text
pub mod Lean
pub mod PlacedSolution
pub mod Draft
pub mod Fault
