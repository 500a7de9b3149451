pub mod Refusals
pub mod Ways
