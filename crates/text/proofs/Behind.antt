-- A fault of a line that ends is the same, whatever bytes stand behind the text. Assumes nothing.
use mathlib.Core.Path.{◌≡◌, refl, sym, ap, ◌∙◌}
use mathlib.Core.Bool.{true, not}
use mathlib.Core.List.{List, ◌∷◌, ◌++◌, append_assoc}
use mathlib.Core.Logic.{⊎_elim}
use Prim.Native.Nat.{ℕ, zero, suc, ◌≤◌, ◌<◌}
use native.Mathlib.Omega.{arith}
use lib.Dec.{eqb}
use lib.ListN.{length, get_or, take, drop, length-append}
use lib.Seq.{split_at, get_or-take, length-take-le, drop-append-le, take-append-le}
use borrow.Author.Tests.{ltb-true, lt-ltb, eqb-true, eqb-false}
use Rattle.ground.specs.Judging.{Judged, Fine, Fault, first}
use Rattle.ground.proofs.Bools.{clash, lt_or_ge, never, true_or_false}
use Rattle.ground.proofs.Faults.{hit, fine, front_hit, front_pass}
use Rattle.ground.proofs.Minimum.{least_is}
use Rattle.link.specs.Limits.{max_rows}
use Rattle.text.specs.Limits.{cut_line}
use Rattle.text.specs.Bytes.{newline, seek}
use Rattle.text.specs.Lines.{next_line, begin, line_from, ended_from, line, ended}
use Rattle.text.specs.Faults.{is_last, line_faults, lines_faults, rows_of, text_faults}
use Rattle.text.proofs.Finding.{without_each, seek_first}
use Rattle.text.proofs.Gluing.{Free}
use Rattle.text.proofs.Walk.{stays, not_cut, ended_low}
use Rattle.text.proofs.Right.{each_fine, all_fine}

-- a line that ends: its bytes, byte 10, and what stands behind it
record Ends (rest : List ℕ) : Type 0 where
  pub behind : List ℕ
  pub split : rest ≡ take (seek newline rest) rest ++ newline ∷ behind
  pub free : Free (take (seek newline rest) rest)

ends : (rest : List ℕ) → seek newline rest < length rest → Ends rest
unfolding seek
ends rest l =
    let s = seek newline rest in
    let w = least_is (λ i. eqb (get_or rest i 0) newline) (length rest) in
    record {
      behind = drop (suc s) rest;
      split = split_at rest s 0 l ∙ ap (λ (b : ℕ). take s rest ++ b ∷ drop (suc s) rest) (eqb-true _ _ (w.here l));
      free = without_each newline (take s rest) (λ i h e.
          let m : i < s = omega (arith, length-take-le s rest (omega arith)) in
          eqb-false (get_or rest i 0) newline (w.before i m) (sym (get_or-take s rest i 0 m) ∙ e));
    }

module _ (y z : List ℕ) where
  abbrev x : List ℕ
  x = y ++ z

  -- the first lines of y, which end, are those of x
  module _ (at : ℕ) (low : at ≤ length y) (e : ended_from y at ≡ true) where
    rest_ends : Ends (drop at y)
    unfolding ended_from
    rest_ends = ends (drop at y) (ltb-true _ _ e)

    there : seek newline (drop at y) < length (drop at y)
    unfolding ended_from
    there = ltb-true _ _ e

    on : drop at x ≡ drop at y ++ z
    on = drop-append-le at y z low

    same_seek : seek newline (drop at x) ≡ seek newline (drop at y)
    same_seek =
        let w = rest_ends in
        let l = take (seek newline (drop at y)) (drop at y) in
        ap (seek newline) (on ∙ ap (λ (r : List ℕ). r ++ z) w.split ∙ append_assoc l (newline ∷ w.behind) z)
        ∙ seek_first newline l (w.behind ++ z) w.free ∙ length-take-le (seek newline (drop at y)) (drop at y) (omega (arith, there))

    same_line : line_from x at ≡ line_from y at
    unfolding line_from
    same_line =
        rw (same_seek, on) (take-append-le (seek newline (drop at y)) (drop at y) z (omega (arith, there)))

    same_end : ended_from x at ≡ true
    unfolding ended_from
    same_end =
        rw (same_seek, on) (lt-ltb (seek newline (drop at y)) (length (drop at y ++ z)) (omega (arith, there, length-append (drop at y) z)))

    same_next : next_line x at ≡ next_line y at
    unfolding next_line
    same_next = rw same_seek

  module _ (m : ℕ) (whole : (k : ℕ) → k < m → ended y k ≡ true) where
    begin_low : (k : ℕ) → k ≤ m → begin y k ≤ length y
    unfolding begin
    begin_low zero h = omega arith
    begin_low (suc k) h = ended_low y k (whole k h)

    same_begin : (k : ℕ) → k ≤ m → begin x k ≡ begin y k
    unfolding begin
    same_begin zero h = refl
    same_begin (suc k) h =
        ap (next_line x) (same_begin k (omega arith)) ∙ same_next (begin y k) (begin_low k (omega arith)) (whole k h)

    -- line k is the same, and so are its faults
    line_same : (k : ℕ) → k < m → line x k ≡ line y k
    line_same k h = ap (line_from x) (same_begin k (omega arith)) ∙ same_line (begin y k) (begin_low k (omega arith)) (whole k h)

    faults_same : (k : ℕ) → k < m → line_faults x k ≡ line_faults y k
    unfolding line_faults
    faults_same k h =
        let e : ended x k ≡ true = ap (ended_from x) (same_begin k (omega arith))
        ∙ same_end (begin y k) (begin_low k (omega arith)) (whole k h) in
        rw (e, whole k h, line_same k h, same_begin k (omega arith))

-- the first line at fault
record Faulty (y : List ℕ) (m n p : ℕ) : Type 0 where
  pub at : ℕ
  pub within : at < m
  pub before : (k : ℕ) → k < at → first (line_faults y k) ≡ Fine
  pub fault : first (line_faults y at) ≡ Fault n p

faulty : (y : List ℕ) (m n p : ℕ) → first (lines_faults y m) ≡ Fault n p → Faulty y m n p
unfolding lines_faults
faulty y zero n p e = never (cc (fine ∙ e))
faulty y (suc m) n p e = go (faulty y m n p) (first (lines_faults y m)) refl
  where
    go : (first (lines_faults y m) ≡ Fault n p → Faulty y m n p) → (j : Judged) → first (lines_faults y m) ≡ j → Faulty y (suc m) n p
    go earlier Fine f = record {
      at = m;
      within = omega arith;
      before = each_fine y m f;
      fault = front_pass (lines_faults y m) (line_faults y m) _ f refl ∙ e;
    }
    go earlier (Fault q r) f =
        let w = earlier (f ∙ front_hit (lines_faults y m) (line_faults y m) q r f ∙ e) in
        record { at = w.at; within = omega (arith, w.within); before = w.before; fault = w.fault }

abbrev number_of : Judged → ℕ
number_of Fine = 0
number_of (Fault n p) = n

-- a fault other than 3 stands, whatever is behind
module _ (y z : List ℕ) (n p : ℕ) (other : n ≡ cut_line → ⊥) (e : first (text_faults y) ≡ Fault n p) where
  line_at_fault : Faulty y (suc (suc (suc (rows_of y)))) n p
  unfolding text_faults
  line_at_fault = faulty y (suc (suc (suc (rows_of y)))) n p e

  abbrev k : ℕ
  k = line_at_fault.at

  ends_here : ended y k ≡ true
  unfolding line_faults
  ends_here =
      ⊎_elim (λ t. t)
      (λ f. absurd (other (ap number_of (sym line_at_fault.fault ∙ sym (hit _ _ cut_line (begin y k) (ap not f))))))
      (true_or_false (ended y k))

  -- the lines up to it end
  whole : (j : ℕ) → j < suc k → ended y j ≡ true
  whole j l =
      ⊎_elim (λ h. not_cut y j (line_at_fault.before j h)) (λ h. let q : j ≡ k = omega arith in rw q ends_here) (lt_or_ge j k)

  judged_same : (j : ℕ) → j < suc k → first (line_faults (y ++ z) j) ≡ first (line_faults y j)
  judged_same j l = ap first (faults_same y z (suc k) whole j l)

  -- none of them but perhaps itself is the last
  low : k ≤ suc (suc (rows_of (y ++ z)))
  unfolding rows_of
  low =
      let w = least_is (λ i. is_last (line (y ++ z) (suc (suc i)))) (suc max_rows) in
      let v = least_is (λ i. is_last (line y (suc (suc i)))) (suc max_rows) in
      ⊎_elim (λ h. clash (w.here (omega (arith, v.low, line_at_fault.within)))
      (ap is_last (line_same y z (suc k) whole (suc (suc (rows_of (y ++ z)))) (omega arith))
      ∙ v.before (rows_of (y ++ z)) (omega (arith, line_at_fault.within)))) (λ h. h) (lt_or_ge (suc (suc (rows_of (y ++ z)))) k)

  pub fault_stands : first (text_faults (y ++ z)) ≡ Fault n p
  unfolding text_faults lines_faults
  fault_stands =
      let front = all_fine (y ++ z) k (λ j l. sym (judged_same j (omega arith) ∙ line_at_fault.before j l)) in
      let here = judged_same k (omega arith) ∙ line_at_fault.fault in
      stays (y ++ z) (suc k) (suc (suc (suc (rows_of (y ++ z))))) n p (omega (arith, low))
      (sym (front_pass (lines_faults (y ++ z) k) (line_faults (y ++ z) k) (Fault n p) (sym front) (sym here)))
