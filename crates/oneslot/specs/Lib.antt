-- The definitions that the contracts of `oneslot` cite.
pub mod Limits
pub mod Moves
pub mod Plan
pub mod Right
pub mod Answer
pub mod Others
