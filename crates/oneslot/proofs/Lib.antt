-- Laws that belong to no one function.
pub mod Accepted
pub mod SoFar
pub mod Choosing
pub mod NextRow
pub mod Sound
pub mod Serving
pub mod Opening
pub mod Fitting
pub mod Settling
pub mod Coming
pub mod MakingRoom
pub mod Finding
pub mod Promises
pub mod Moving
pub mod FirstFit
pub mod Worked
