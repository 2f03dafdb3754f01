-- The definitions that the contracts and promises of `planfile` cite.
pub mod Bytes
pub mod Causes
pub mod Number
pub mod Format
pub mod FileMeaning
pub mod Answer
pub mod FormFault
