-- Which step stopped, where a reading did. Assumes nothing.
use mathlib.Core.Path.{◌≡◌, refl}
use mathlib.Core.List.{List, [], ◌∷◌, ◌++◌}
use Prim.Native.Nat.{ℕ, zero, suc, ◌<◌}
use native.Mathlib.Omega.{arith}
use Rattle.ground.proofs.Bools.{never}
use Rattle.planfile.specs.FileMeaning.{Step, got, stopped, passing, row, Rows, rows, Meaning, refused, means}
use Rattle.planfile.proofs.Accepting.{before}

-- a step that stopped did so at once, or in what follows it
pub stop_in : {X A B : Type 0} (s : Step A) (f : A → ℕ → Step B) (n p : ℕ) → passing s f ≡ stopped n p → (s ≡ stopped n p → X) →
    ((a : A) (at : ℕ) → s ≡ got a at → f a at ≡ stopped n p → X) → X
stop_in (got a at) f n p e here later = later a at refl e
stop_in (stopped m q) f n p e here later = let n_is : m ≡ n = cc in let p_is : q ≡ p = cc in here (rw (n_is, p_is))

pub refused_in : {X A : Type 0} (s : Step A) (f : A → ℕ → Meaning) (n p : ℕ) → means s f ≡ refused n p → (s ≡ stopped n p → X) →
    ((a : A) (at : ℕ) → s ≡ got a at → f a at ≡ refused n p → X) → X
refused_in (got a at) f n p e here later = later a at refl e
refused_in (stopped m q) f n p e here later = let n_is : m ≡ n = cc in let p_is : q ≡ p = cc in here (rw (n_is, p_is))

-- the rows stop at a row, all rows above it got
pub record StopsAt (bs : List ℕ) (p m : ℕ) (ds os : List ℕ) (from n q : ℕ) : Type 0 where
  pub row_at : ℕ
  pub low : row_at < m
  pub above : Rows
  pub place : ℕ
  pub rowed : rows bs p row_at ds os from ≡ got above place
  pub stops : row bs p place ≡ stopped n q

pub stops_at_a_row : (bs : List ℕ) (p m : ℕ) (ds os : List ℕ) (from n q : ℕ) → rows bs p m ds os from ≡ stopped n q →
    StopsAt bs p m ds os from n q
unfolding rows
stops_at_a_row bs p zero ds os from n q e = never (cc)
stops_at_a_row bs p (suc m) ds os from n q e =
    stop_in (row bs p from) _ n q e
    (λ h. record { row_at = 0; low = omega arith; above = record { delays = ds; offsets = os }; place = from; rowed = refl; stops = h })
    (λ r next g h. let w = stops_at_a_row bs p m (ds ++ (r.delay ∷ [])) (os ++ (r.offset ∷ [])) next n q h in
    record {
      row_at = suc w.row_at;
      low = omega (arith, w.low);
      above = w.above;
      place = w.place;
      rowed = rw (rows, g) w.rowed;
      stops = w.stops;
    })

-- and back: where a row stops, the rows do
pub rows_stop : (bs : List ℕ) (p i m : ℕ) (ds os : List ℕ) (from : ℕ) (above : Rows) (at n q : ℕ) → i < m →
    rows bs p i ds os from ≡ got above at → row bs p at ≡ stopped n q → rows bs p m ds os from ≡ stopped n q
unfolding rows
rows_stop bs p i zero ds os from above at n q l e f = absurd (omega arith)
rows_stop bs p zero (suc m) ds os from above at n q l e f = let here : from ≡ at = cc in rw (here, rows, f)
rows_stop bs p (suc i) (suc m) ds os from above at n q l e f =
    let r = before (row bs p from) _ _ _ e in
    let next_ds = ds ++ (r.value.delay ∷ []) in
    let next_os = os ++ (r.value.offset ∷ []) in
    rw (rows, r.here) (rows_stop bs p i m next_ds next_os r.place above at n q (omega arith) r.after f)
