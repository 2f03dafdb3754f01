-- Laws that belong to no one function.
pub mod Columns
pub mod Judging
pub mod NoLength
pub mod Promises
pub mod Worked
