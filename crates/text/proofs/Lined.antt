-- How the code shows what a line says, from the place where it begins. Assumes nothing.
use mathlib.Core.Path.{◌≡◌, refl, sym, ap}
use mathlib.Core.Bool.{true, false, not}
use mathlib.Core.List.{List}
use Prim.Native.Nat.{ℕ, suc, ◌+◌, ◌-◌, ◌≤◌, ◌<◌}
use native.Mathlib.Omega.{arith}
use lib.ListN.{length, take, drop, length-drop}
use borrow.Author.Tests.{lt-ltb, le-ltb, ltb-true}
use Rattle.ground.specs.Judging.{first}
use Rattle.ground.specs.Refusals.{number_of, fault_of}
use Rattle.ground.specs.declared.Fault.{Fault as Refused}
use Rattle.ground.proofs.Answers.{refused}
use Rattle.ground.proofs.Faults.{hit, pass}
use Rattle.ground.proofs.Filling.{middle_part}
use Rattle.text.specs.Limits.{cut_line}
use Rattle.text.specs.Bytes.{newline, seek}
use Rattle.text.specs.Lines.{next_line, line_from, ended_from}
use Rattle.text.specs.Faults.{is_last, title_faults, own_faults}
use Rattle.text.specs.Steps.{faults_from, LineAt, CutAt, pair_says, last_says, row_says, second_says, line_says}
use Rattle.text.specs.Steps.{HeadSaid, WrongHead, LineSaid, Wrong}

-- the line that begins at `at`, as `line_at` tells of it
module _ (x : List ℕ) (at : ℕ) where
  -- no byte 10 remains: 3
  module _ (f : Refused) (h : CutAt x at f) where
    pub line_cut : (k : ℕ) → first (faults_from x at k) ≡ fault_of f
    unfolding faults_from
    line_cut k = rw (h.number, h.place) (sym (hit _ _ cut_line at (ap not h.cut)))

    pub second_cut : WrongHead (number_of f.refusal) f.place ≡ second_says x at
    unfolding second_says
    second_cut = refused WrongHead _ (line_cut 1)

    pub next_cut : (n : ℕ) → Wrong (number_of f.refusal) f.place ≡ line_says x at n
    unfolding line_says
    next_cut n = refused Wrong _ (line_cut (suc (suc n)))

  -- one remains
  module _ (l : List ℕ) (start next : ℕ) (h : LineAt x at l start next) where
    pub next_low : next ≤ length x
    unfolding ended_from next_line
    next_low = omega (arith, h.behind, ltb-true (seek newline (drop at x)) (length (drop at x)) h.ended, length-drop at x)

    line_own : (k : ℕ) → first (faults_from x at k) ≡ first (own_faults k l start)
    unfolding faults_from
    line_own k = rw (h.bytes, h.start) (sym (pass _ _ cut_line at (ap not h.ended) refl))

    pub second_answer : (r : HeadSaid) → r ≡ pair_says l start next → r ≡ second_says x at
    unfolding second_says own_faults
    second_answer r f = rw (line_own 1, ← h.bytes, ← h.behind) f

    module _ (n : ℕ) (r : LineSaid) where
      pub last_answer : is_last l ≡ true → r ≡ last_says n l start next → r ≡ line_says x at n
      unfolding line_says own_faults
      last_answer t f = rw (line_own (suc (suc n)), ← h.bytes, ← h.behind, t) f

      pub row_answer : is_last l ≡ false → r ≡ row_says n l start next → r ≡ line_says x at n
      unfolding line_says own_faults
      row_answer t f = rw (line_own (suc (suc n)), ← h.bytes, ← h.behind, t) f

  -- how the code finds it, with the byte 10 behind d other bytes, or none
  pub line_there : (d : ℕ) → seek newline (drop at x) ≡ d → d < length (drop at x)
      → LineAt x at (take (at + d - at) (drop at x)) at (at + d + 1)
  unfolding ended_from line_from next_line
  line_there d e l =
      record {
        ended = rw e (lt-ltb d (length (drop at x)) l);
        bytes = middle_part x at _ (at + d) (rw e);
        start = refl;
        behind = rw e;
      }

  pub cut_there : length (drop at x) ≤ seek newline (drop at x) → ended_from x at ≡ false
  unfolding ended_from
  cut_there l = le-ltb (seek newline (drop at x)) (length (drop at x)) l

-- line one
pub title_judged : (x l : List ℕ) (start next : ℕ) → LineAt x 0 l start next → first (faults_from x 0 0) ≡ first (title_faults l start)
unfolding own_faults
title_judged x l start next h = line_own x 0 l start next h 0
