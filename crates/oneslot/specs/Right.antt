-- What it is for rows to be placed right, said without the planner: the laws in proofs/Sound say that `settled` is this.
use Rattle.std.specs.Prelude.{◌≡◌, true, List, [], ◌∷◌, ◌++◌, ◌⊎◌, ℕ, suc, ◌≤◌, ◌<◌, length, get_or, take}
use Rattle.ground.specs.Lent.{on_front}
use Rattle.link.specs.Range.{GoodTable}
use Rattle.link.specs.Rows.{span_of, free, Clear}
use Rattle.link.specs.declared.Link.{Link}
use Rattle.oneslot.specs.Moves.{moved}

-- "the least such row, then its least new offset, then the least offset for the new row": the one move is not after the other
abbrev pub NotAfter : ℕ → ℕ → ℕ → ℕ → ℕ → ℕ → Type 0
NotAfter i x y i' x' y' = (i < i') ⊎ ((i ≡ i') × ((x < x') ⊎ ((x ≡ x') × (y ≤ y'))))

-- "At most one move is made for each new row": the rows of os but row i have in ps the offsets that they had
abbrev pub OthersStay : List ℕ → List ℕ → ℕ → Type 0
OthersStay os ps i = (j : ℕ) → j < length os → (j ≡ i → ⊥) → get_or ps j 0 ≡ get_or os j 0

-- os has the offsets of the rows so far, and the next row is row `length os`
module _ (p l : ℕ) (ds : List ℕ) where
  abbrev pub FreeForNext : List ℕ → ℕ → Type 0
  FreeForNext os a = free p l ds os (length os) (get_or ds (length os) 0) a ≡ true

  -- a is the least offset that is free for the next row
  pub record LeastFree (os : List ℕ) (a : ℕ) : Type 0 where
    pub low : a < p
    pub is_free : FreeForNext os a
    pub least : (b : ℕ) → b < p → FreeForNext os b → a ≤ b

  -- row i moved to x makes room for the next row at y: "all rows so far are clear"
  pub record Serves (os : List ℕ) (i x y : ℕ) : Type 0 where
    pub earlier : i < length os
    pub new_offset : x < p
    pub offset : y < p
    pub clear : Clear p l (take (suc (length os)) ds) (moved os i x y)

  pub record LeastMove (os : List ℕ) (i x y : ℕ) : Type 0 where
    pub serves : Serves os i x y
    pub least : (i' x' y' : ℕ) → Serves os i' x' y' → NotAfter i x y i' x' y'

  abbrev pub NoneFree : List ℕ → Type 0
  NoneFree os = (a : ℕ) → a < p → FreeForNext os a → ⊥

  -- how the next row comes in: by its least free offset, or, with none free, by the least move
  pub data Next (os : List ℕ) : List ℕ → Type 0 where
    takes : (a : ℕ) → LeastFree os a → Next os (os ++ (a ∷ []))
    moves : (i x y : ℕ) → NoneFree os → LeastMove os i x y → Next os (moved os i x y)

  -- rows that came in so, one after the other
  pub data Reached : List ℕ → Type 0 where
    start : Reached []
    onward : (os ps : List ℕ) → Reached os → Next os ps → Reached ps

  -- the rows before j came in, and row j cannot: no offset is free for it, and no single move helps
  pub record NoWay (j : ℕ) : Type 0 where
    pub offsets : List ℕ
    pub as_many : length offsets ≡ j
    pub before : Reached offsets
    pub none_free : NoneFree offsets
    pub no_move : (i x y : ℕ) → Serves offsets i x y → ⊥

-- a plan that was given: the values are in range, each row came in right, the offsets stand in the front of the lent list and its tail
-- is kept, and they are clear
pub record GivenPlan (k : Link) (ds old new : List ℕ) : Type 0 where
  pub table : GoodTable k ds
  pub is_one_slot : k.size ≡ 1
  pub room : length ds ≤ length old
  pub offsets : List ℕ
  pub as_many : length offsets ≡ length ds
  pub inside : (i : ℕ) → i < length ds → get_or offsets i 0 < k.period
  pub right : Reached k.period (span_of k) ds offsets
  pub written : new ≡ on_front offsets old
  pub clear : Clear k.period (span_of k) ds offsets

-- a row that cannot come in, in a table in range
pub record NotLetIn (k : Link) (ds old : List ℕ) (j : ℕ) : Type 0 where
  pub table : GoodTable k ds
  pub is_one_slot : k.size ≡ 1
  pub room : length ds ≤ length old
  pub row : j < length ds
  pub stuck : NoWay k.period (span_of k) ds j
