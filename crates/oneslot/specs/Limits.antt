-- This crate's own refusal number.
use Rattle.std.specs.Prelude.{ℕ}

-- "25 .. if the size isn't 1"
abbrev pub not_one_slot : ℕ
not_one_slot = 25
