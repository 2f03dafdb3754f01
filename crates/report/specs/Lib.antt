-- The definitions that the contracts and promises of `report` cite.
pub mod Runs
pub mod Free
pub mod Answer
pub mod Steps
