-- The definitions that the contracts of `link`, and of every crate above it, cite.
pub mod Limits
pub mod Slots
pub mod Rows
pub mod Starts
pub mod Refusal
pub mod Range
