-- The definitions that every crate above stands on.
pub mod Least
pub mod Count
pub mod Series
pub mod Words
pub mod Lent
pub mod Judging
pub mod Refusals
pub mod Protocol
