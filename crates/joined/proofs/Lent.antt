-- Lists that are lent from a place on. Assumes nothing.
use mathlib.Core.Path.{◌≡◌, ap, ◌∙◌}
use mathlib.Core.List.{List, ◌++◌, append-nil}
use Prim.Native.Nat.{ℕ, ◌-◌, ◌≤◌}
use lib.ListN.{length, take}
use lib.Seq.{drop-length}
use borrow.Rule.Slice.PartMut.{put_mid, Post-is}

-- the list from a place on was lent, and is put back
pub tail_back : (a : ℕ) (xs ys : List ℕ) → a ≤ length xs → put_mid a (length xs - a) xs ys ≡ take a xs ++ ys
tail_back a xs ys h =
    ap (λ (z : List ℕ). take a xs ++ (ys ++ z)) (Post-is a (length xs) xs h ∙ drop-length xs)
    ∙ ap (λ (z : List ℕ). take a xs ++ z) (append-nil ys)
