-- Laws that belong to no one function, for this crate and those above it.
pub mod Columns
pub mod OnCircle
pub mod Meeting
pub mod Clearness
pub mod Accepted
pub mod Turning
pub mod Touching
pub mod Crowding
pub mod Promises
pub mod Worked
