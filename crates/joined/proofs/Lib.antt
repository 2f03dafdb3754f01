-- Laws that belong to no one function.
pub mod Lent
pub mod Told
pub mod Steps
pub mod Walk
pub mod Answers
pub mod Filled
pub mod Joining
pub mod Alone
pub mod Splitting
pub mod Running
pub mod Accident
pub mod Promises
pub mod Worked
