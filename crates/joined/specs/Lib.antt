-- The definitions that the contracts and the promises of `joined` are stated with.
pub mod Limits
pub mod Texts
pub mod Answer
pub mod Steps
pub mod Meaning
