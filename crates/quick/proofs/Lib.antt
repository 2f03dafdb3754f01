-- Laws that belong to no one function.
pub mod Candidates
pub mod Standing
pub mod Placing
pub mod Keeping
pub mod Entries
pub mod Sound
pub mod Promises
pub mod FirstFit
pub mod Following
pub mod Losing
pub mod Enough
pub mod LightLoads
pub mod Full
pub mod Sharp
pub mod Worked
pub mod WorkedLoads
