-- A file cut anywhere ends inside its tag or inside a number, and is refused at the first byte of that. Assumes nothing.
use mathlib.Core.Path.{◌≡◌, refl, sym, ap, ◌∙◌}
use mathlib.Core.List.{List, [], ◌∷◌, ◌++◌, append-nil, flatten}
use mathlib.Core.Logic.{⊎_elim}
use Prim.Native.Nat.{ℕ, zero, suc, ◌+◌, ◌-◌, ◌≤◌, ◌<◌}
use native.Mathlib.Omega.{arith}
use lib.ListN.{length, take, drop, length-append}
use lib.Seq.{take-append-le, take-append-add}
use borrow.Author.Tests.{lt-ltb, le-ltb}
use Rattle.ground.specs.Words.{begins}
use Rattle.ground.proofs.Bools.{lt_or_ge}
use Rattle.link.specs.Limits.{max_period, max_delay, max_rows, bad_period, bad_size, bad_delay, bad_rows, bad_offset}
use Rattle.link.specs.Range.{GoodTable, GoodPlan}
use Rattle.link.specs.declared.Link.{Link}
use Rattle.planfile.specs.Causes.{cut_off}
use Rattle.planfile.specs.Number.{number_bytes, form_fault}
use Rattle.planfile.specs.Format.{tag, header_bytes, rows_bytes, plan_bytes, rows_parts, numbers_parts, plan_parts, first_byte, place_of}
use Rattle.planfile.specs.FileMeaning.{Step, got, stopped, passing, number, header, row, rows, Meaning, refused, means, body}
use Rattle.planfile.specs.FileMeaning.{tag_fault, meaning}
use Rattle.planfile.specs.declared.Malformed.TheVariants.{Cut as IsCut}
use Rattle.planfile.proofs.Encoding.{number_cut}
use Rattle.planfile.proofs.Steps.{number_form}
use Rattle.planfile.proofs.RoundTrip.{behind, number_got, InRows, in_rows, later_rows, three, both, both_more}

-- a file is its parts, one after the other
rows_parts_lem : (ds os : List ℕ) → rows_bytes ds os ≡ flatten (rows_parts ds os)
unfolding rows_bytes rows_parts flatten
rows_parts_lem [] os = refl
rows_parts_lem (d ∷ ds) [] = refl
rows_parts_lem (d ∷ ds) (o ∷ os) = rw (rows_parts_lem ds os)

pub plan_parts_lem : (k : Link) (ds os : List ℕ) → plan_bytes k ds os ≡ flatten (plan_parts k ds os)
unfolding plan_bytes header_bytes plan_parts numbers_parts flatten
plan_parts_lem k ds os =
    ap (λ (bs : List ℕ). tag ++ bs)
    (three (number_bytes k.period) (number_bytes k.size) (number_bytes (length ds)) (rows_bytes ds os) ∙ rw (rows_parts_lem ds os))

-- byte m is in the first part, or behind it
module _ (part : List ℕ) (parts : List (List ℕ)) (at m : ℕ) where
  in_first : m < at + length part → first_byte (part ∷ parts) at m ≡ at
  unfolding first_byte
  in_first h = rw (lt-ltb _ _ h)

  behind_first : at + length part ≤ m → first_byte (part ∷ parts) at m ≡ first_byte parts (at + length part) m
  unfolding first_byte
  behind_first h = rw (le-ltb _ _ h)

-- from `at` on stand the first bytes of the parts, not all; the part that was cut begins at `place`
record CutIn (bs : List ℕ) (parts : List (List ℕ)) (at place : ℕ) : Type 0 where
  kept : ℕ
  here : drop at bs ≡ take kept (flatten parts)
  inside : kept < length (flatten parts)
  begins : first_byte parts at (at + kept) ≡ place

-- the step s was cut off at the place, or it got a, and the cut is in the parts after it
data Either {A : Type 0} (s : Step A) (a : A) (bs : List ℕ) (parts : List (List ℕ)) (place : ℕ) : Type 0 where
  cut : s ≡ stopped cut_off place → Either s a bs parts place
  on : (at : ℕ) → s ≡ got a at → CutIn bs parts at place → Either s a bs parts place

-- a cut step stays cut, whatever was to follow it
then : {A B : Type 0} (s : Step A) (f : A → ℕ → Step B) {a : A} {b : B} {bs : List ℕ} {parts last : List (List ℕ)} {place : ℕ}
    → Either s a bs parts place → ((at : ℕ) → CutIn bs parts at place → Either (f a at) b bs last place)
    → Either (passing s f) b bs last place
then s f (cut e) g = cut (rw e)
then s f (on at e c) g = rw e (g at c)

module _ (bs : List ℕ) (place : ℕ) where
  number_either : (parts : List (List ℕ)) (at lo hi fault v : ℕ) → lo ≤ v → v ≤ hi → v ≤ max_delay
      → CutIn bs (number_bytes v ∷ parts) at place → Either (number bs at lo hi fault) v bs parts place
  unfolding flatten form_fault
  number_either parts at lo hi fault v l h k c = ⊎_elim inside beyond (lt_or_ge c.kept (length (number_bytes v)))
    where
      inside : c.kept < length (number_bytes v) → Either (number bs at lo hi fault) v bs parts place
      inside q =
          let here : drop at bs ≡ take c.kept (number_bytes v) = c.here
          ∙ take-append-le c.kept (number_bytes v) (flatten parts) (omega arith) in
          let first : at ≡ place = sym (in_first (number_bytes v) parts at (at + c.kept) (omega arith)) ∙ c.begins in
          cut (sym (number_form bs at lo hi fault IsCut (sym (rw here (number_cut v c.kept q))))
          ∙ ap (stopped cut_off) first)

      beyond : length (number_bytes v) ≤ c.kept → Either (number bs at lo hi fault) v bs parts place
      beyond q =
          let next = at + length (number_bytes v) in
          let left = c.kept - length (number_bytes v) in
          let kept_is : c.kept ≡ length (number_bytes v) + left = omega arith in
          let byte : at + c.kept ≡ next + left = omega arith in
          let here : drop at bs ≡ number_bytes v ++ take left (flatten parts) = rw kept_is at c.here
          ∙ take-append-add (number_bytes v) (flatten parts) left in
          on next (number_got bs _ at lo hi fault v here l h k)
          (record {
            kept = left;
            here = behind bs (number_bytes v) _ at here;
            inside = omega (arith, length-append (number_bytes v) (flatten parts), c.inside);
            begins = rw (← byte) (sym (behind_first (number_bytes v) parts at (at + c.kept) (omega arith)) ∙ c.begins);
          })

  header_either : (parts : List (List ℕ)) (at : ℕ) (k : Link) (ds : List ℕ) → GoodTable k ds
      → CutIn bs (number_bytes k.period ∷ number_bytes k.size ∷ number_bytes (length ds) ∷ parts) at place
      → Either (header bs at) (record { link = k; rows = length ds }) bs parts place
  unfolding header
  header_either parts at k ds g c =
      let size_low : k.size ≤ max_delay = omega (arith, g.span_high, g.period_high) in
      then (number bs at 1 max_period bad_period) _
      (number_either _ at 1 max_period bad_period k.period g.period_low g.period_high (omega (arith, g.period_high)) c)
      (λ at₁ c₁. then (number bs at₁ 1 k.period bad_size) _
      (number_either _ at₁ 1 k.period bad_size k.size g.span_low g.span_high size_low c₁)
      (λ at₂ c₂. then (number bs at₂ 1 max_rows bad_rows) _
      (number_either _ at₂ 1 max_rows bad_rows (length ds) g.rows_low g.rows_high (omega (arith, g.rows_high)) c₂)
      (λ at₃ c₃. on at₃ refl c₃)))

  row_either : (parts : List (List ℕ)) (p at d o : ℕ) → p ≤ max_period → d ≤ max_delay → o < p
      → CutIn bs (number_bytes d ∷ number_bytes o ∷ parts) at place → Either (row bs p at) (record { delay = d; offset = o }) bs parts place
  unfolding row
  row_either parts p at d o h k l c =
      then (number bs at 0 max_delay bad_delay) _
      (number_either _ at 0 max_delay bad_delay d (omega arith) k k c)
      (λ at₁ c₁. then (number bs at₁ 0 (p - 1) bad_offset) _
      (number_either _ at₁ 0 (p - 1) bad_offset o (omega arith) (omega arith) (omega arith) c₁)
      (λ at₂ c₂. on at₂ refl c₂))

  same_value : {A : Type 0} {s : Step A} {a b : A} {parts : List (List ℕ)} → a ≡ b → Either s a bs parts place → Either s b bs parts place
  same_value e h = rw (← e) h

  rows_either : (p at : ℕ) (xs ys ds os : List ℕ) → p ≤ max_period → InRows p ds os → CutIn bs (rows_parts ds os) at place
      → Either (rows bs p (length ds) xs ys at) (both (xs ++ ds) (ys ++ os)) bs [] place
  unfolding rows rows_parts
  rows_either p at xs ys [] [] h w c = on at (rw (append-nil xs, append-nil ys)) c
  rows_either p at xs ys [] (o ∷ os) h w c = absurd (omega (arith, w.as_many))
  rows_either p at xs ys (d ∷ ds) [] h w c = absurd (omega (arith, w.as_many))
  rows_either p at xs ys (d ∷ ds) (o ∷ os) h w c =
      then (row bs p at) _
      (row_either (rows_parts ds os) p at d o h (w.delays 0 (omega arith)) (w.offsets 0 (omega arith)) c)
      (λ at₁ c₁. same_value (both_more xs ys ds os d o)
      (rows_either p at₁ (xs ++ (d ∷ [])) (ys ++ (o ∷ [])) ds os h (later_rows p d o ds os w) c₁))

  means_refused : {A : Type 0} (s : Step A) (f : A → ℕ → Meaning) {a : A} {parts : List (List ℕ)} → Either s a bs parts place
      → ((at : ℕ) → CutIn bs parts at place → f a at ≡ refused cut_off place) → means s f ≡ refused cut_off place
  means_refused s f (cut e) g = rw e
  means_refused s f (on at e c) g = rw e (g at c)

  body_cut : (k : Link) (ds os : List ℕ) → GoodPlan k ds os
      → CutIn bs (numbers_parts k ds os) 4 place → body bs 4 ≡ refused cut_off place
  unfolding body flatten numbers_parts
  body_cut k ds os g c =
      means_refused (header bs 4) _ (header_either _ 4 k ds g.table c)
      (λ at c₁. means_refused (rows bs k.period (length ds) [] [] at) _
      (rows_either k.period at [] [] ds os g.table.period_high (in_rows k ds os g) c₁)
      (λ _ c₂. absurd (omega (arith, c₂.inside))))

parts_cut : (k : Link) (ds os : List ℕ) (m : ℕ) → GoodPlan k ds os → m < length (flatten (plan_parts k ds os)) →
    meaning (take m (flatten (plan_parts k ds os))) ≡ refused cut_off (place_of k ds os m)
unfolding plan_parts flatten first_byte meaning tag_fault begins
parts_cut k ds os zero g h = refl
parts_cut k ds os (suc zero) g h = refl
parts_cut k ds os (suc (suc zero)) g h = refl
parts_cut k ds os (suc (suc (suc zero))) g h = refl
parts_cut k ds os (suc (suc (suc (suc m)))) g h =
    let numbers = numbers_parts k ds os in
    let byte : 4 + m ≡ suc (suc (suc (suc m))) = omega arith in
    let first = ap (first_byte numbers 4) byte ∙ sym (behind_first tag numbers 0 (suc (suc (suc (suc m)))) (omega arith)) in
    body_cut (take (suc (suc (suc (suc m)))) (tag ++ flatten numbers)) _ k ds os g
    (record { kept = m; here = refl; inside = omega arith; begins = first })

pub cut_anywhere : (k : Link) (ds os : List ℕ) (m : ℕ) → GoodPlan k ds os → m < length (plan_bytes k ds os) →
    meaning (take m (plan_bytes k ds os)) ≡ refused cut_off (place_of k ds os m)
cut_anywhere k ds os m g h = rw (plan_parts_lem k ds os) (parts_cut k ds os m g (rw (plan_parts_lem k ds os) at h))
