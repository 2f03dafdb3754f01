-- From the search to the answer. Assumes nothing.
use mathlib.Core.Path.{◌≡◌, sym, ap, ◌∙◌}
use mathlib.Core.List.{List, ◌∷◌}
use Prim.Native.Nat.{ℕ, zero, suc, ◌+◌, ◌-◌, ◌%◌, ◌<◌, ◌≤◌}
use native.Mathlib.Omega.{arith}
use native.Mathlib.Nat.{mod-lt, mod-eq_of_lt}
use lib.ListN.{length, get_or, take, replicate, length-replicate, get_or-replicate}
use borrow.Author.Tests.{lt-ltb, le-ltb}
use Rattle.search.specs.Limits.{no_build, budget_spent}
use Rattle.ground.specs.Lent.{on_front}
use Rattle.ground.specs.Protocol.{gives}
use Rattle.link.specs.Limits.{max_rows}
use Rattle.link.specs.Range.{GoodTable}
use Rattle.link.specs.Rows.{span_of, second}
use Rattle.link.specs.declared.Circle.{Circle}
use Rattle.link.specs.declared.Link.{Link}
use Rattle.search.specs.Steps.{Rules, rules}
use Rattle.search.specs.Builds.{Out, found, none, begin, planned, rules_of}
use Rattle.search.specs.Answer.{plan, nothing, spent, says, within, outcome}
use Rattle.search.specs.Search.{deep, Answered, Table, Starts}
use Rattle.search.specs.declared.Hunt.TheVariants.{Found, Nothing, Spent}
use Rattle.search.proofs.Answering.{ends, tests}
use Rattle.search.proofs.Counting.{deep_least}
use Rattle.search.proofs.Listing.{steps_increasing}
use Rattle.search.proofs.Reducing.{rules_same}

-- the search starts right: row 0 stands at 0, and its second start is its delay
pub begin_starts : (p : ℕ) (ts : List ℕ) (n : ℕ) → n ≤ max_rows → get_or ts 0 0 < p
    → Starts p ts n (begin p) (get_or ts 0 0 ∷ replicate (max_rows - 1) 0)
unfolding second
begin_starts p ts n h l =
    record {
      xs_length = ap suc (length-replicate (max_rows - 1) p);
      ys_length = ap suc
          (length-replicate {A = ℕ} (max_rows - 1) 0);
      seconds = at;
    }
  where
    at : (i : ℕ) → i < n → get_or (begin p) i 0 < p → get_or (get_or ts 0 0 ∷ replicate (max_rows - 1) 0) i 0
        ≡ second p (get_or ts i 0) (get_or (begin p) i 0)
    at zero a b = let e : 0 + get_or ts 0 0 ≡ get_or ts 0 0 = omega arith in sym (ap (λ (x : ℕ). x % p) e ∙ mod-eq_of_lt l)
    at (suc i) a b = absurd (omega (arith, get_or-replicate {A = ℕ} (max_rows - 1) i p 0 (omega arith)))

module _ (k : Link) (o : Circle) (e : (o.period ≡ k.period) × (o.span ≡ span_of k)) (ds ts : List ℕ) (g : GoodTable k ds)
    (same : (i : ℕ) → get_or ts i 0 ≡ get_or ds i 0 % o.period) where
  pub low_delays : (i : ℕ) → get_or ts i 0 < o.period
  low_delays i = rw (same i, e.0) (mod-lt (get_or ds i 0) g.period_low)

  pub turns_table : Table o.period o.span ts (length ds)
  turns_table =
      rw (e.0, e.1)
      (record { period = g.period_high; some_span = g.span_low; span = g.span_high; rows = g.rows_high; delays = rw e.0 at low_delays })

  pub is_planned : deep (rules o.period o.span ts (length ds)) (length ds - 1) (begin o.period) ≡ planned k ds
  is_planned =
      rw (e.0, e.1)
      (ap (λ (r : Rules). deep r (length ds - 1) (begin k.period))
      (rules_same k.period (span_of k) ds ts (λ i. rw e.0 at (same i)) (length ds)))
      ∙ deep_least (rules_of k ds) (steps_increasing k.period (length ds)) (length ds - 1) (begin k.period)

-- what the code says of the search is what the paper says
module _ (budget n : ℕ) (old s s' : List ℕ) (o : Out) where
  pub found_outcome : (left : ℕ) → Answered budget s o (Found left) s'
      → gives (says plan 0 0 (budget - left)) (on_front (take n s') old) ≡ outcome budget n old o
  unfolding outcome within
  found_outcome left a =
      let w = ends budget s s' o (Found left) a in
      let e : budget - left ≡ w.taken = omega (arith, w.enough, w.rest) in
      rw (w.is, le-ltb budget w.taken w.enough, e)

  pub nothing_outcome : (left : ℕ) → Answered budget s o (Nothing left) s'
      → gives (says nothing no_build 0 (budget - left)) old ≡ outcome budget n old o
  unfolding outcome within
  nothing_outcome left a =
      let w = ends budget s s' o (Nothing left) a in
      let e : budget - left ≡ w.taken = omega (arith, w.enough, w.rest) in
      rw (w.is, le-ltb budget w.taken w.enough, e)

  pub spent_outcome : Answered budget s o Spent s' → gives (says spent budget_spent 0 budget) old ≡ outcome budget n old o
  unfolding outcome within
  spent_outcome a = go o (ends budget s s' o Spent a).above
    where
      go : (o : Out) → budget < tests o → gives (says spent budget_spent 0 budget) old ≡ outcome budget n old o
      go (found x t) h = rw (lt-ltb budget t h)
      go (none t) h = rw (lt-ltb budget t h)
