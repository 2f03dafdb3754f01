pub mod Theorem
pub mod Planners
