-- The definitions that the contracts of `quick` cite.
pub mod Plan
pub mod Answer
pub mod Ways
pub mod Right
pub mod Loads
