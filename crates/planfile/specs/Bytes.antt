-- Lists whose elements are bytes, as the elements of a lent `&[u8]` are.
use Rattle.std.specs.Prelude.{List, ℕ, ◌<◌, length, get_or}

pub record Bytes (bs : List ℕ) : Type 0 where
  pub byte : (i : ℕ) → i < length bs → get_or bs i 0 < 256
