-- What a read put behind the front is what the reader gave next.
use Rattle.std.proofs.Common.{◌≡◌, ℕ, ◌+◌, ◌≤◌, List, ◌++◌, length, take, drop}
use Rattle.std.proofs.Common.{sym, ap, ◌∙◌, subst, le_refl, drop_at, length-take-le, rules}
use Rattle.std.proofs.lemmas.Slice.{take-put_mid_below}
use Rattle.std.specs.Io.KnownBytes.{Consumes}
use Rattle.std.proofs.KnownBytes.{Consumes-trans}
use borrow.Rule.Slice.PartMut.{put_mid, post_of}
use lib.Seq.{take-add, take-append-le}
use Rattle.exact.proofs.read_full.Goals as goal

-- ys written from the place a on: up to its first n, it is the old front and those
joined : (a k n : ℕ) (xs ys : List ℕ) → a ≤ length xs → n ≤ length ys
    → take (a + n) (put_mid a k xs ys) ≡ take a xs ++ take n ys
joined a k n xs ys within fits =
    let new = put_mid a k xs ys in
    let after = post_of a k xs in
    let front = take-put_mid_below a k xs ys a (le_refl a) within in
    let behind = drop_at (take a xs) (ys ++ after) a (length-take-le a xs within) in
    take-add a n new ∙ ap (λ l. l ++ take n (drop a new)) front
    ∙ ap (λ l. take a xs ++ l) (ap (take n) behind ∙ take-append-le n ys after fits)

pub loop-done-preserved : goal.loop-done-preserved
loop-done-preserved g c =
    let loop = c.loop-done in
    let read = c.in_ok-n in
    let front = joined loop.done _ read.n loop.buf c.read.new.buf loop.invariant.0 read.ensures.bound.0 in
    (search rules, subst (Consumes _ _) (sym front) (Consumes-trans _ _ _ _ _ loop.invariant.1 read.ensures.bytes.0))
