pub mod Span
pub mod Places
pub mod Snapshot
pub mod Blocks
