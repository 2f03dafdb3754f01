-- Light loads: where no quick planner can run out of offsets. n is the number of rows.
use Rattle.std.specs.Prelude.{◌≡◌, List, [], ◌∷◌, ◌++◌, ℕ, suc, ◌+◌, ◌-◌, ◌*◌, ◌/◌, ◌≤◌, ◌<◌, eqb, length, get_or}
use Rattle.ground.specs.Count.{count}
use Rattle.ground.specs.Least.{least}
use Rattle.ground.specs.Series.{listed}
use Rattle.link.specs.Rows.{span_of, Crossing, start, hits, either}
use Rattle.link.specs.Slots.{after}
use Rattle.link.specs.declared.Link.{Link}

-- "P divided by T, rounded down, is at least 3n-2"
abbrev pub LightLoad : Link → List ℕ → Type 0
LightLoad k ds = 3 * length ds - 2 ≤ k.period / span_of k

-- "3nT is at most P": the messages fill at most a third of the period
abbrev pub ThirdLoad : Link → List ℕ → Type 0
ThirdLoad k ds = 3 * length ds * span_of k ≤ k.period

-- P is above (3n-2)T - n, as it is for every light load
abbrev pub FirstFitLoad : Link → List ℕ → Type 0
FirstFitLoad k ds = (3 * length ds - 2) * span_of k < k.period + length ds

-- (n-1)(4T-2) is below P
abbrev pub SimpleLoad : Link → List ℕ → Type 0
SimpleLoad k ds = (length ds - 1) * (4 * span_of k - 2) < k.period

-- at how many of the planner's m offsets for row j the least row that it meets, in either crossing, is row i
module _ (p l : ℕ) (ds os : List ℕ) (step m : ℕ) where
  unfoldable pub named_for : ℕ → ℕ → ℕ
  named_for j i = count (λ c. eqb (least (either (hits p l ds os (get_or ds j 0) (c * step))) j) i) m

-- row i starts right after an earlier row, in one of the crossings
pub record Follows (p l : ℕ) (ds os : List ℕ) (i : ℕ) : Type 0 where
  pub earlier : ℕ
  pub is_earlier : earlier < i
  pub crossing : Crossing
  pub right_after : start p ds os crossing i ≡ after p l (start p ds os crossing earlier)

-- Tables of u + 1 rows that are full for the last one. The rows before it have the delays d 0, d 1, .. and come to stand on 0, T, 2T, ..;
-- with the offset uT, the first that none of them takes in crossing 1, the last row starts in slot 0 in crossing 2.
abbrev pub full_delays : (ℕ → ℕ) → ℕ → ℕ → ℕ → List ℕ
full_delays d p t u = listed d u ++ ((p - u * t) ∷ [])

-- The rows before the last start in crossing 2 at 1, 2T + 1, 4T + 1, ..: each takes two more multiples. 6, 2, (1 4) and 12, 2, (1 3 8)
-- are 6, 2, (0 3) and 12, 2, (0 2 7) with one slot more in each delay, which turns crossing 2 and changes no answer.
abbrev pub full_for_meta_offset : ℕ → ℕ → ℕ → List ℕ
full_for_meta_offset p t u = full_delays (λ i. i * t + 1) p t u

-- The rows before the last start in crossing 2 at T-1, T-1 + (2T-1), ..: each takes 2T-1 more offsets. 11, 2, (1 2 7) is 11, 2, (0 1 6) so.
abbrev pub full_for_first_fit : ℕ → ℕ → ℕ → List ℕ
full_for_first_fit p t u = full_delays (λ i. suc i * (t - 1)) p t u
