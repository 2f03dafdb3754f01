-- The rules of a walk that belong to no one function.
pub mod Clauses
pub mod Whole
pub mod Element
pub mod Locals
pub mod Called
pub mod HeldCall
pub mod PlainCall
pub mod Walk
