-- Laws that are not about links.
pub mod Bools
pub mod Minimum
pub mod Hunting
pub mod Counting
pub mod Sharing
pub mod Series
pub mod Elements
pub mod Remainders
pub mod Beginning
pub mod Refusals
pub mod Filling
pub mod Blocks
pub mod Adding
pub mod Faults
pub mod Only
pub mod Answers
