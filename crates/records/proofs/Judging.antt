-- The first fault of records, line by line: where a list of them is refused, and where it goes on. Assumes nothing.
use mathlib.Core.Path.{◌≡◌, sym, ◌∙◌, ap}
use mathlib.Core.Bool.{true, false, not}
use mathlib.Core.List.{List, []}
use Prim.Native.Nat.{ℕ, ◌≤◌, ◌<◌}
use lib.Dec.{ltb, leb}
use lib.ListN.{length}
use borrow.Author.Tests.{eq-eqb}
use Rattle.std.specs.Prelude.{Some, None}
use Rattle.std.specs.List.{position}
use Rattle.ground.specs.Judging.{Judged, Fine, Fault, first, outside}
use Rattle.ground.proofs.Faults.{hit, pass, hit_found, pass_found, front_hit, front_pass, fine, inside}
use Rattle.link.specs.Limits.{max_delay, max_rows, bad_delay, bad_rows, bad_offset}
use Rattle.link.specs.Refusal.{link_faults, row_faults, table_faults, offset_faults, plan_faults}
use Rattle.link.specs.declared.Link.{Link}
use Rattle.records.specs.Columns.{delays_of, offsets_of}
use Rattle.records.specs.declared.Record.{Record}
use Rattle.records.proofs.Columns.{delays_length, one_each, delay_found, offset_found}

module _ (k : Link) (rs : List Record) where
  -- what `check` judges of the records' delays and offsets
  abbrev told : Judged
  told = first (plan_faults k (delays_of rs) (offsets_of rs))

  pub link_refused : (n p : ℕ) → Fault n p ≡ first (link_faults k) → Fault n p ≡ told
  link_refused n p e = front_hit _ _ _ _ (sym (front_hit _ _ _ _ (sym e)))

  module _ (good : Fine ≡ first (link_faults k)) where
    rows_refused : (n p : ℕ) → Fault n p ≡ first (row_faults (delays_of rs)) → Fault n p ≡ told
    rows_refused n p e = front_hit _ _ _ _ (sym (front_pass _ _ _ (sym good) e))

    pub number_refused : outside 1 max_rows (length rs) ≡ true → Fault bad_rows 0 ≡ told
    unfolding row_faults
    number_refused h = rows_refused _ _ (hit _ _ _ _ (rw (delays_length rs) h))

    module _ (some : 0 < length rs) (high : length rs ≤ max_rows) where
      number_fine : outside 1 max_rows (length (delays_of rs)) ≡ false
      number_fine = rw (delays_length rs) (inside _ _ _ some high)

      pub delay_refused : (i : ℕ) → position (λ (r : Record). ltb max_delay r.delay) rs ≡ Some i
          → Fault bad_delay i ≡ told
      unfolding row_faults
      delay_refused i e =
          rows_refused _ _ (pass _ _ _ _ number_fine (hit_found [] (λ x. ltb max_delay x) (delays_of rs) _ i (delay_found _ rs ∙ e)))

      module _ (delays : position (λ (r : Record). ltb max_delay r.delay) rs ≡ None) where
        table_fine : first (table_faults k (delays_of rs)) ≡ Fine
        unfolding row_faults
        table_fine =
            sym (front_pass _ _ _ (sym good)
            (pass _ _ _ _ number_fine (pass_found [] (λ x. ltb max_delay x) (delays_of rs) _ (delay_found _ rs ∙ delays) fine)))

        pub offset_refused : (i : ℕ) → position (λ (r : Record). leb k.period r.offset) rs ≡ Some i
            → Fault bad_offset i ≡ told
        unfolding offset_faults
        offset_refused i e =
            front_pass _ _ _ table_fine
            (pass _ _ _ _ (ap not (eq-eqb _ _ (one_each rs)))
            (hit_found [] (λ x. leb k.period x) (offsets_of rs) _ i (offset_found _ rs ∙ e)))

        pub accepted : position (λ (r : Record). leb k.period r.offset) rs ≡ None
            → Fine ≡ told
        unfolding offset_faults
        accepted e =
            front_pass _ _ _ table_fine
            (pass _ _ _ _ (ap not (eq-eqb _ _ (one_each rs)))
            (pass_found [] (λ x. leb k.period x) (offsets_of rs) _ (offset_found _ rs ∙ e) fine))
