-- The definitions that the contracts of `console` cite.
pub mod Printed
pub mod Pages
