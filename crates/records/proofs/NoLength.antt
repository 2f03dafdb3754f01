-- Lists of one length are never refused with 11. Assumes nothing.
use mathlib.Core.Path.{◌≡◌, refl, sym, ◌∙◌, ap}
use mathlib.Core.Bool.{true, false, not}
use mathlib.Core.List.{List, [], ◌∷◌}
use Prim.Native.Nat.{ℕ}
use lib.Dec.{eqb, leb}
use lib.ListN.{length, get_or}
use borrow.Author.Tests.{eq-eqb}
use Rattle.link.specs.Limits.{bad_length, bad_offset}
use Rattle.ground.specs.Judging.{Cause, at_row, first, and_then}
use Rattle.link.specs.Refusal.{link_faults, row_faults, table_faults, offset_faults, plan_faults}
use Rattle.link.specs.Rows.{span_of}
use Rattle.link.specs.declared.Link.{Link}
use Rattle.ground.specs.Judging.{Fault}
use Rattle.ground.proofs.Bools.{clash}
use Rattle.ground.proofs.Faults.{pass, first_append, or_else, all_numbers, number_of}
use Rattle.checker.specs.Answer.{refusing, answer}
use Rattle.checker.proofs.Collisions.{naming, refusal_told}

module _ (k : Link) (ds os : List ℕ) where
  -- the refusals that are left
  abbrev pub only_offsets : List Cause
  only_offsets = at_row (λ i. leb k.period (get_or os i 0)) (length os) bad_offset ∷ []

  abbrev pub others : List Cause
  others = and_then (table_faults k ds) only_offsets

  pub passes : length os ≡ length ds → first (plan_faults k ds os) ≡ first others
  unfolding offset_faults and_then
  passes h =
      let over : first (offset_faults k ds os) ≡ first only_offsets = sym (pass _ _ _ _ (ap not (eq-eqb _ _ h)) refl) in
      first_append (table_faults k ds) _ ∙ ap (or_else (first (table_faults k ds))) over ∙ sym (first_append (table_faults k ds) _)

  not_eleven : (n p : ℕ) → first others ≡ Fault n p → not (eqb n bad_length) ≡ true
  unfolding and_then link_faults row_faults all_numbers
  not_eleven n p = number_of (λ m. not (eqb m bad_length)) others n p refl

  pub never : length os ≡ length ds → (p : ℕ) → refusing bad_length p ≡ answer k ds os → ⊥
  unfolding answer
  never h p e =
      let f = refusal_told k.period (span_of k) ds os (first (plan_faults k ds os)) bad_length p (naming k.period (span_of k) ds os) e in
      clash {x = false} (not_eleven bad_length p (sym (passes h) ∙ f)) refl
