-- The definitions that the contracts of `seamwhisk` cite.
pub mod Numbers
