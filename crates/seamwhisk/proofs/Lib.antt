-- Laws that belong to no one function.
pub mod Arms
pub mod LongestFile
