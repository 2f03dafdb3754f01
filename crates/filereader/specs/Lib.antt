-- The definitions that the contracts of `filereader` cite.
pub mod Held
