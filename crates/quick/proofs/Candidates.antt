-- The candidates 0, step, .., (count-1) step. Assumes nothing.
use mathlib.Core.Path.{◌≡◌, ap, ◌∙◌, subst}
use mathlib.Core.Bool.{Bool, not}
use mathlib.Core.List.{List}
use Prim.Native.Nat.{ℕ, ◌+◌, ◌*◌, ◌%◌, ◌≤◌, ◌<◌}
use native.Mathlib.Omega.{arith}
use native.Mathlib.Nat.{suc-mul, mul-le-mul_right, mod-add-mod, add_right_comm}
use native.Mathlib.Numerals.{add-one}
use Rattle.std.specs.Prelude.{Option, Some, None, is_some}
use Rattle.link.specs.Rows.{Met, second, first_near, is_nobody}
use Rattle.link.specs.Starts.{met}
use Rattle.link.specs.declared.Met.{Met as RowMet}
use Rattle.quick.specs.Ways.{Ways, open_to}

pub next_low : (c count step : ℕ) → c < count → c * step + step ≤ count * step
next_low c count step h = subst (λ (x : ℕ). x ≤ count * step) (suc-mul c step) (mul-le-mul_right step h)

pub candidate_low : (p l step count : ℕ) → Ways p l step count → (c : ℕ) → c < count → c * step < p
candidate_low p l step count w c h = omega (arith, next_low c count step h, w.low, w.some_step)

pub next_is : (c step a : ℕ) → a ≡ c * step → a + step ≡ (c + 1) * step
next_is c step a e = rw (add-one, suc-mul, e)

-- the second start goes on by as much as the offset
pub next_second : (p d a b step : ℕ) → b ≡ second p d a → second p step b ≡ second p d (a + step)
unfolding second
next_second p d a b step e = rw e (mod-add-mod (a + d) p step ∙ ap (λ (x : ℕ). x % p) (add_right_comm a d step))

-- what the call tells of the candidate c
pub opens : (p l d : ℕ) (xs ys : List ℕ) (step c a b : ℕ) (m : Met) → a ≡ c * step → b ≡ second p d a → m ≡ first_near p l xs ys a b
    → open_to p l d xs ys step c ≡ is_nobody m
unfolding open_to
opens p l d xs ys step c a b m e f g = rw (g, f, e)

-- somebody is met exactly where the code names a row
pub some_met : (m : Option RowMet) {b : Bool} → is_some m ≡ b → is_nobody (met m) ≡ not b
some_met None e = ap not e
some_met (Some m) e = ap not e
