-- One text: what is read of it, its fault, and its answer. Assumes nothing.
use mathlib.Core.Path.{◌≡◌, refl, sym, ap, ◌∙◌}
use mathlib.Core.Bool.{Bool, true, false, cond, ◌&&◌}
use mathlib.Core.List.{List}
use mathlib.Core.Logic.{⊎_elim}
use Prim.Native.Nat.{ℕ, ◌+◌, ◌-◌, ◌≤◌, ◌<◌, min}
use native.Mathlib.Omega.{arith}
use Rattle.std.specs.Prelude.{Result}
use lib.Dec.{ltb, eqb}
use lib.ListN.{length, take, drop, length-drop, length-take}
use lib.Seq.{take_all}
use Rattle.ground.specs.Judging.{Judged, Fine, Fault, first}
use Rattle.ground.specs.Lent.{on_front}
use Rattle.ground.specs.Protocol.{Outcome, gives, keeping, unless}
use Rattle.ground.proofs.Answers.{refused, goes_on}
use Rattle.ground.proofs.Bools.{lt_or_ge, never}
use Rattle.ground.proofs.Filling.{middle_part}
use Rattle.link.specs.declared.Link.{Link}
use Rattle.text.specs.Limits.{max_text, long_text, cut_line}
use Rattle.text.specs.Faults.{text_faults}
use Rattle.search.specs.Answer.{Said as Searched, said as searched_said, exactly}
use Rattle.ground.specs.Refusals.{number_of, fault_of}
use Rattle.ground.specs.declared.Fault.{Fault as Refused}
use Rattle.search.specs.declared.Answer.{Answer}
use Rattle.joined.specs.Texts.{text_from, split_cut, fault_from, is_fault}
use Rattle.joined.specs.Answer.{Lists, lists, answer_as, plan_of, in_front}
use Rattle.joined.specs.Steps.{Next, Wrong, step_gives}
use Rattle.joined.proofs.Told.{WholeText}

-- the first 1,024 bytes, or all that there are
pub first_bytes : (x : List ℕ) (at r : ℕ) → r ≡ min (length x - at) max_text
    → take (at + r - at) (drop at x) ≡ text_from x at
first_bytes x at r e = middle_part x at r (at + r) refl ∙ ⊎_elim many few (lt_or_ge max_text (length x - at))
  where
    many : max_text < length x - at → take r (drop at x) ≡ take max_text (drop at x)
    many h = let n : r ≡ max_text = omega (arith, e) in rw n

    few : length x - at ≤ max_text → take r (drop at x) ≡ take max_text (drop at x)
    few h =
        let n : r ≡ length x - at = omega (arith, e) in
        take_all r (drop at x) (omega (arith, length-drop at x)) ∙ sym (take_all max_text (drop at x) (omega (arith, length-drop at x)))

-- a text ends within the input
pub ends_inside : (x : List ℕ) (at r : ℕ) → r ≡ min (length x - at) max_text
    → (end : ℕ) → end ≤ length (take (at + r - at) (drop at x)) → end ≤ length x - at
ends_inside x at r e end h =
    let n = ap length (first_bytes x at r e) in
    omega (arith, n, length-take max_text (drop at x), length-drop at x)

never_fine : (c : Bool) (n p : ℕ) → cond c (Fault long_text 0) (Fault n p) ≡ Fine → ⊥
never_fine true n p e = never (cc (ap is_fault e))
never_fine false n p e = never (cc (ap is_fault e))

module _ (x : List ℕ) (at : ℕ) where
  pub fine_from : first (text_faults (text_from x at)) ≡ Fine → fault_from x at ≡ Fine
  unfolding fault_from
  fine_from e = rw e

  pub fine_back : fault_from x at ≡ Fine → first (text_faults (text_from x at)) ≡ Fine
  unfolding fault_from
  fine_back e = go (ltb max_text (length (drop at x))) (first (text_faults (text_from x at))) e
    where
      go : (b : Bool) (j : Judged) → unless (split_cut Fault b) j Fine ≡ Fine → j ≡ Fine
      go b Fine f = refl
      go b (Fault n p) f = absurd (never_fine (b && eqb n cut_line) n p f)

  -- y was read as the text there
  module _ (budget : ℕ) (l : Lists) (y : List ℕ) (is : y ≡ text_from x at) where
    pub wrong_step : (n p : ℕ) (f : Refused) → first (text_faults y) ≡ Fault n p
        → fault_of f ≡ split_cut Fault (ltb max_text (length x - at)) n p
        → gives (Wrong (number_of f.refusal) f.place) l ≡ step_gives x at budget l
    unfolding step_gives fault_from
    wrong_step n p f e g =
        let here : fault_from x at ≡ fault_of f = rw (rw is at e, length-drop at x) (sym g) in
        refused (keeping Wrong l) _ here

    pub next_step : (k : Link) (rows end : ℕ) (old kept : List ℕ) (a : Result Answer Refused) (numbers offsets : List ℕ)
        → WholeText y k rows end old kept
        → gives (searched_said a) offsets ≡ exactly k (take rows kept) budget l.offsets
        → numbers ≡ on_front (answer_as (searched_said a) rows) l.answers
        → gives (Next (at + end)) (lists numbers offsets) ≡ step_gives x at budget l
    unfolding step_gives in_front
    next_step k rows end old kept a numbers offsets w e f =
        let g : gives (searched_said a) offsets ≡ plan_of y budget l.offsets = e ∙ rw (w.link, w.delays) in
        let s : searched_said a ≡ (plan_of y budget l.offsets).says = ap (λ (o : Outcome Searched (List ℕ)). o.says) g in
        let o : offsets ≡ (plan_of y budget l.offsets).leaves = ap (λ (o : Outcome Searched (List ℕ)). o.leaves) g in
        goes_on (keeping Wrong l) (fine_from (rw is at w.fine)) (rw (← is, f, s, o, w.ends, w.rows_are))
