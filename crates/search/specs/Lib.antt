-- The definitions that the contracts of `search` cite.
pub mod Limits
pub mod Refusal
pub mod Steps
pub mod Builds
pub mod Ceilings
pub mod Answer
pub mod Numbering
pub mod Search
pub mod Searching
