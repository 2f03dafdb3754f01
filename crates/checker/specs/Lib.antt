-- The definitions that the contracts and promises of `checker` cite.
pub mod Answer
pub mod Judging
pub mod Order
