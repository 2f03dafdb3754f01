-- No clear plan has a file of more than 458 bytes, which the C header calls SEAMWHISK_MAX_FILE: 64 rows leave no room for messages
-- whose size takes three bytes. Assumes nothing.
use mathlib.Core.Path.{◌≡◌, subst}
use mathlib.Core.Bool.{Bool, true, false, cond}
use mathlib.Core.List.{List, [], ◌∷◌}
use mathlib.Core.Logic.{⊎_elim}
use Prim.Native.Nat.{ℕ, zero, suc, ◌+◌, ◌*◌, ◌/◌, ◌%◌, ◌≤◌, ◌<◌}
use native.Mathlib.Omega.{arith}
use native.Mathlib.Nat.{div-lt_iff_lt-mul, mul_comm}
use lib.Dec.{ltb}
use lib.ListN.{length, get_or, length-append}
use borrow.Author.Tests.{lt-ltb}
use Rattle.ground.proofs.Bools.{lt_or_ge}
use Rattle.link.specs.Limits.{max_delay}
use Rattle.link.specs.Range.{GoodPlan}
use Rattle.link.specs.Rows.{one, span_of, Clear}
use Rattle.link.specs.declared.Link.{Link}
use Rattle.link.proofs.Accepted.{in_range}
use Rattle.planfile.specs.Format.{header_bytes, rows_bytes, plan_bytes}
use Rattle.planfile.specs.Number.{limit, groups, number_bytes}
use Rattle.planfile.proofs.Worked.{first_link, delays, offsets, first_table_is_clear}
use Rattle.report.proofs.Total.{free_total}

-- a number below what `more` groups after the first can hold has no more bytes than that
few : (room more x : ℕ) → x < limit more → length (groups room x) ≤ more + 1
unfolding groups limit
few zero more x h = omega arith
few (suc room) zero x h = rw (lt-ltb x 128 h) (omega arith)
few (suc room) (suc more) x h =
    go (ltb x 128) (few room more (x / 128) ((div-lt_iff_lt-mul (omega arith)).1 (rw (mul_comm (limit more) 128) h)))
  where
    go : (b : Bool) → length (groups room (x / 128)) ≤ more + 1
        → length (cond b (x ∷ []) ((128 + x % 128) ∷ groups room (x / 128))) ≤ suc more + 1
    go true l = omega arith
    go false l = omega arith

bytes_of : (more x : ℕ) → x < limit more → length (number_bytes x) ≤ more + 1
unfolding number_bytes
bytes_of more x h = few 3 more x h

-- seven bytes a row: delays have at most four, offsets at most three
rows_bytes_lem : (ds os : List ℕ) → ((i : ℕ) → i < length ds → get_or ds i 0 ≤ max_delay) → ((i : ℕ) → i < length os
    → get_or os i 0 < 1000000)
    → length (rows_bytes ds os) ≤ 7 * length ds
unfolding rows_bytes limit
rows_bytes_lem [] os d o = omega arith
rows_bytes_lem (x ∷ ds) [] d o = omega arith
rows_bytes_lem (x ∷ ds) (y ∷ os) d o =
    let delay = bytes_of 3 x (omega (arith, d 0 (omega arith))) in
    let offset = bytes_of 2 y (omega (arith, o 0 (omega arith))) in
    let rest = rows_bytes_lem ds os (λ i h. d (suc i) (omega arith)) (λ i h. o (suc i) (omega arith)) in
    rw (length-append, length-append) (omega (arith, delay, offset, rest))

pub longest_file : (k : Link) (ds os : List ℕ) → GoodPlan k ds os → Clear k.period (span_of k) ds os → length (plan_bytes k ds os) ≤ 458
unfolding plan_bytes header_bytes limit
longest_file k ds os g c =
    ⊎_elim (λ h. go (bytes_of 2 k.size (omega (arith, g.table.span_high, g.table.period_high))) (omega arith))
    (λ h. let many : length ds ≡ 64 = omega (arith, g.table.rows_high) in
    let room : 64 * k.size ≤ k.period = subst (λ (n : ℕ). n * k.size ≤ k.period) many fits in
    go (bytes_of 1 k.size (omega (arith, g.table.period_high))) (omega arith))
    (lt_or_ge (length ds) 64)
  where
    fits : length ds * k.size ≤ k.period
    fits =
        let all = free_total k.period (span_of k) k.size ds os (in_range k ds os g) (omega arith) c one in
        omega (arith, all)

    go : {size : ℕ} → length (number_bytes k.size) ≤ size → size + 7 * length ds ≤ 450 → length (plan_bytes k ds os) ≤ 458
    go l h =
        let period = bytes_of 2 k.period (omega (arith, g.table.period_high)) in
        let rows = bytes_of 0 (length ds) (omega (arith, g.table.rows_high)) in
        let each = rows_bytes_lem ds os g.table.delays (λ i m. omega (arith, g.offsets i m, g.table.period_high)) in
        rw (length-append, length-append, length-append, length-append) (omega (arith, l, h, period, rows, each))

-- used on document 01's first table
pub first_table_fits : length (plan_bytes first_link delays offsets) ≤ 458
first_table_fits = longest_file first_link delays offsets first_table_is_clear.0 first_table_is_clear.1
