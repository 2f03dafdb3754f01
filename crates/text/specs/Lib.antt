-- The definitions that the contracts and the promises of `text` are stated with.
pub mod Limits
pub mod Bytes
pub mod Decimal
pub mod Lines
pub mod Faults
pub mod Answer
pub mod TextAnswer
pub mod Steps
pub mod Writing
pub mod Meaning
