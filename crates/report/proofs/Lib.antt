-- Laws that belong to no one function.
pub mod Widths
pub mod Summed
pub mod Stretches
pub mod Covering
pub mod Total
pub mod Starts
pub mod Behind
pub mod Passing
pub mod Crossings
pub mod Turning
pub mod Joined
pub mod Fitting
pub mod Promises
pub mod Worked
