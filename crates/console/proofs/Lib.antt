-- Laws that belong to no one function.
pub mod Spelling
pub mod Putting
pub mod Lines
pub mod Showing
pub mod Promises
pub mod Worked
