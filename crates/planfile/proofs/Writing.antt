-- What the writer gives, and how the bytes of a plan come about. Assumes nothing.
use mathlib.Core.Path.{◌≡◌, refl, sym, ◌∙◌}
use mathlib.Core.Logic.{◌⊎◌, ⊎_elim}
use mathlib.Core.List.{List, [], ◌∷◌, ◌++◌, append_assoc}
use Prim.Native.Nat.{ℕ, suc, ◌+◌, ◌*◌, ◌≤◌, ◌<◌}
use native.Mathlib.Omega.{arith}
use lib.ListN.{length, drop, length-append}
use borrow.Author.Tests.{lt-ltb, le-ltb}
use Rattle.link.specs.Limits.{bad_length}
use Rattle.link.specs.Range.{GoodPlan}
use Rattle.link.specs.declared.Link.{Link}
use Rattle.ground.specs.Judging.{first}
use Rattle.checker.specs.Judging.{clear_faults}
use Rattle.ground.specs.Lent.{on_front, Adds}
use Rattle.ground.specs.Protocol.{gives, keeping}
use Rattle.ground.specs.Judging.{Fine, Fault}
use Rattle.ground.proofs.Adding.{same_length, and_then, nothing_yet}
use Rattle.ground.proofs.Answers.{refused, goes_on}
use Rattle.ground.proofs.Faults.{fine as no_fault, hit, pass, front_hit, front_pass}
use Rattle.planfile.specs.Number.{number_bytes}
use Rattle.planfile.specs.Format.{tag, header_bytes, rows_bytes, plan_bytes, header_room, RowsFit}
use Rattle.planfile.specs.Answer.{writes, refuses_write, stored, write_faults, write_gives}
use Rattle.planfile.proofs.Numbers.{length_number, few_groups}

pub rows_fit : (k : Link) (ds os : List ℕ) → GoodPlan k ds os → RowsFit ds os
rows_fit k ds os g =
    record {
      rows_high = g.table.rows_high;
      as_many = g.as_many;
      delays = λ i h. few_groups _ (g.table.delays i h);
      offsets = λ i h. few_groups _ (omega (arith, g.offsets i h, g.table.period_high));
    }

module _ (k : Link) (ds os old : List ℕ) where
  pub write_fault : (n p : ℕ) → first (clear_faults k ds os) ≡ Fault n p → keeping refuses_write old n p ≡ write_gives k ds os old
  unfolding write_gives write_faults
  write_fault n p e = refused (keeping refuses_write old) _ (sym (front_hit (clear_faults k ds os) _ n p e))

  module _ (fine : first (clear_faults k ds os) ≡ Fine) where
    pub write_short : length old < length (plan_bytes k ds os) → keeping refuses_write old bad_length 0 ≡ write_gives k ds os old
    unfolding write_gives write_faults
    write_short h =
        refused (keeping refuses_write old) _
        (sym (front_pass (clear_faults k ds os) _ _ fine (hit [] _ bad_length 0 (lt-ltb _ _ h))))

    pub write_done : length (plan_bytes k ds os) ≤ length old → stored (plan_bytes k ds os) old ≡ write_gives k ds os old
    unfolding write_gives write_faults
    write_done h =
        goes_on (keeping refuses_write old)
        (sym (front_pass (clear_faults k ds os) _ Fine fine (pass [] _ bad_length 0 (le-ltb _ _ h) no_fault))) refl

pub length_header : (k : Link) (n : ℕ) → length (header_bytes k n) ≤ header_room
unfolding header_bytes
length_header k n =
    rw (length-append, length-append) (omega (arith, length_number k.period, length_number k.size, length_number n))

-- two numbers, one after the other
length_two : (x y : ℕ) → length (number_bytes x ++ number_bytes y) ≤ 8
length_two x y = rw length-append (omega (arith, length_number x, length_number y))

two_put : (x y at r₁ r₂ : ℕ) (f₀ f₁ f₂ : List ℕ) → at + 8 ≤ length f₀ → Adds f₀ at (number_bytes x) r₁ f₁
    → Adds f₁ r₁ (number_bytes y) r₂ f₂
    → Adds f₀ at (number_bytes x ++ number_bytes y) r₂ f₂
two_put x y at r₁ r₂ f₀ f₁ f₂ room p q = and_then f₀ at (number_bytes x) (omega (arith, length_number x)) r₁ f₁ p (number_bytes y) r₂ f₂ q

-- period, size and the number of rows
pub header_put : (k : Link) (n at r₁ r₂ r₃ : ℕ) (f₀ f₁ f₂ f₃ : List ℕ) → at + header_room ≤ length f₀
    → Adds f₀ at (number_bytes k.period) r₁ f₁ → Adds f₁ r₁ (number_bytes k.size) r₂ f₂ → Adds f₂ r₂ (number_bytes n) r₃ f₃
    → Adds f₀ at (header_bytes k n) r₃ f₃
unfolding header_bytes
header_put k n at r₁ r₂ r₃ f₀ f₁ f₂ f₃ room p q s =
    let two = two_put k.period k.size at r₁ r₂ f₀ f₁ f₂ (omega arith) p q in
    rw append_assoc at (and_then f₀ at _ (omega (arith, length_two k.period k.size)) r₂ f₂ two (number_bytes n) r₃ f₃ s)

-- of the rows ds and os some are written, from `from` on and at most eight bytes each: those left, put behind them, make the whole
pub record Writing (ds os f₀ : List ℕ) (from : ℕ) (f : List ℕ) (at : ℕ) (ds' os' : List ℕ) : Type 0 where
  pub fit : RowsFit ds' os'
  pub room : length f ≡ length f₀
  pub low : at + 8 * length ds' ≤ from + 8 * length ds
  pub left : (r : ℕ) (last : List ℕ) → Adds f at (rows_bytes ds' os') r last → Adds f₀ from (rows_bytes ds os) r last

pub writing_none : (ds os f₀ : List ℕ) (from : ℕ) → RowsFit ds os → Writing ds os f₀ from f₀ from ds os
writing_none ds os f₀ from fit = record { fit = fit; room = refl; low = omega arith; left = λ r last a. a }

module _ (ds os f₀ : List ℕ) (from : ℕ) (f : List ℕ) (at : ℕ) where
  pub writing_more : (d o : ℕ) (ds' os' : List ℕ) → Writing ds os f₀ from f at (d ∷ ds') (o ∷ os') → (f₁ f₂ : List ℕ) (r₁ r₂ : ℕ)
      → at + 8 ≤ length f → Adds f at (number_bytes d) r₁ f₁ → Adds f₁ r₁ (number_bytes o) r₂ f₂ → Writing ds os f₀ from f₂ r₂ ds' os'
  unfolding rows_bytes
  writing_more d o ds' os' w f₁ f₂ r₁ r₂ space p q =
      let short = length_two d o in
      let fits : at + length (number_bytes d ++ number_bytes o) ≤ length f = omega arith in
      let row = two_put d o at r₁ r₂ f f₁ f₂ space p q in
      record {
        fit = record {
          rows_high = omega (arith, w.fit.rows_high);
          as_many = omega (arith, w.fit.as_many);
          delays = λ i h. w.fit.delays (suc i) (omega arith);
          offsets = λ i h. w.fit.offsets (suc i) (omega arith);
        };
        room = same_length f at _ fits r₂ f₂ row ∙ w.room;
        low = omega (arith, w.low, row.end);
        left = λ r last a. w.left r last (rw append_assoc at (and_then f at _ fits r₂ f₂ row _ r last a));
      }

  -- a list that is at its end ends the rows
  pub writing_done : (ds' os' : List ℕ) → Writing ds os f₀ from f at ds' os' → (length ds' ≡ 0) ⊎ (length os' ≡ 0)
      → Adds f₀ from (rows_bytes ds os) at f
  unfolding rows_bytes
  writing_done [] os' w e = w.left at f (nothing_yet f at)
  writing_done (d ∷ ds') [] w e = w.left at f (nothing_yet f at)
  writing_done (d ∷ ds') (o ∷ os') w e = ⊎_elim (λ h. absurd (omega arith)) (λ h. absurd (omega arith)) e

-- tag, header and rows
pub plan_put : (k : Link) (ds os f₀ f₁ f₂ f₃ : List ℕ) (r₁ r₂ : ℕ) → 4 + header_room ≤ length f₀ → f₁ ≡ tag ++ drop 4 f₀
    → Adds f₁ 4 (header_bytes k (length ds)) r₁ f₂ → Adds f₂ r₁ (rows_bytes ds os) r₂ f₃ → Adds f₀ 0 (plan_bytes k ds os) r₂ f₃
unfolding plan_bytes
plan_put k ds os f₀ f₁ f₂ f₃ r₁ r₂ room e b c =
    let head = header_bytes k (length ds) in
    let front = and_then f₀ 0 tag (omega arith) 4 f₁ (record { end = refl; written = e }) head r₁ f₂ b in
    and_then f₀ 0 (tag ++ head) (omega (arith, length_header k (length ds))) r₁ f₂ front (rows_bytes ds os) r₂ f₃ c

-- the whole file stands on the buffer's front, and the answer says how many bytes it has
pub stored_as : {n : ℕ} {out : List ℕ} (bs old : List ℕ) → n ≡ length bs → out ≡ on_front bs old → gives (writes n) out ≡ stored bs old
stored_as bs old e f = λ i. gives (writes (e i)) (f i)
