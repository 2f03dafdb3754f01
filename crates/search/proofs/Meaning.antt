-- A choice of offsets for all rows is clear exactly where there is a whole build, and the search finds one exactly then. Assumes nothing.
use mathlib.Core.Path.{◌≡◌, refl}
use mathlib.Core.List.{List}
use Prim.Native.Nat.{ℕ, ◌-◌, ◌≤◌}
use native.Mathlib.Omega.{arith}
use lib.ListN.{length, get_or, take}
use lib.Seq.{length-take-le, get_or-take}
use Rattle.link.specs.Range.{GoodTable}
use Rattle.link.specs.Rows.{span_of}
use Rattle.link.specs.declared.Link.{Link}
use Rattle.search.specs.Steps.{Step, rules}
use Rattle.search.specs.Builds.{Out, found, none, not_later, sequences, leads, begin, planned, rules_of}
use Rattle.search.specs.Builds.{WholeBuild, LeastWholeOf}
use Rattle.search.specs.Ceilings.{ceiling_of}
use Rattle.search.specs.Answer.{ClearChoice}
use Rattle.ground.proofs.Counting.{count_in_low}
use Rattle.search.proofs.Answering.{tests}
use Rattle.search.proofs.Bounds.{below_ceiling}
use Rattle.search.proofs.Completeness.{Plan}
use Rattle.search.proofs.Finding.{complete}
use Rattle.search.proofs.Least.{found_least, none_none}
use Rattle.search.proofs.Listing.{steps_increasing}
use Rattle.search.proofs.Soundness.{sound, all_placed, begin_okay, clear_of, plan_of}
use Rattle.search.proofs.States.{placed_low, begin_at}

module _ (k : Link) (ds : List ℕ) (g : GoodTable k ds) where
  abbrev p : ℕ
  p = k.period

  abbrev l : ℕ
  l = span_of k

  abbrev n : ℕ
  n = length ds

  -- the offsets of a build
  pub build_clear : (q : List Step) → WholeBuild k ds q
      → ClearChoice k ds (take (length ds) (leads (rules_of k ds) (begin k.period) q))
  build_clear q b =
      let w = sound p l ds n g.period_low g.span_high b (begin_at p n g.period_low g.rows_low g.rows_high)
      (begin_okay p l ds n g.period_low g.span_high g.rows_low g.rows_high) in
      let s = leads (rules p l ds n) (begin p) q in
      record {
        as_many = length-take-le n s w.0.long;
        inside = λ i h. rw (get_or-take n s i 0 h) (placed_low p s i (all_placed p l ds n g.period_low g.span_high s w.0 i h));
        clear = clear_of p l ds g.period_low g.span_high s w.0 w.1;
      }

  pub plan_build : (A : ℕ → ℕ) → Plan k.period (span_of k) ds (length ds) A → (q : List Step) × WholeBuild k ds q
  plan_build A a = complete p l ds n A a g.span_low g.span_high g.rows_low g.rows_high

  pub choice_plan : (os : List ℕ) → ClearChoice k ds os → Plan k.period (span_of k) ds (length ds) (λ i. get_or os i 0)
  choice_plan os c = plan_of p l ds g.period_low g.span_high os c.inside c.clear

  -- no plan, as offsets of rows, is there where the search finds none
  pub no_plan : (t : ℕ) → planned k ds ≡ none t → (A : ℕ → ℕ) → Plan k.period (span_of k) ds (length ds) A → ⊥
  no_plan t e A a = let b = plan_build A a in (none_none (rules_of k ds) (steps_increasing p n) (n - 1) (begin p) t e).0 b.0 b.1

  pub least_at : (s : List ℕ) (t : ℕ) → planned k ds ≡ found s t → LeastWholeOf k ds s t
  least_at s t e = found_least (rules_of k ds) (steps_increasing p n) (n - 1) (begin p) s t e

  pub found_clear : (s : List ℕ) (t : ℕ) → planned k ds ≡ found s t → ClearChoice k ds (take (length ds) s)
  found_clear s t e = let b = least_at s t e in rw b.offsets at (build_clear b.steps b.whole)

  -- "a number that tests never passes"
  pub tests_most : tests (planned k ds) ≤ ceiling_of (length ds)
  tests_most = go (planned k ds) refl
    where
      go : (x : Out) → planned k ds ≡ x → tests x ≤ ceiling_of (length ds)
      go (found s t) e = let b = least_at s t e in omega (
        arith,
        b.tests,
        count_in_low (λ x. not_later x b.steps)
            (sequences (rules p l ds n) (n - 1) (begin p)),
        below_ceiling p l ds n g.period_low g.rows_low g.rows_high,
      )
      go (none t) e = omega (
        arith,
        (none_none (rules_of k ds) (steps_increasing p n) (n - 1) (begin p) t e).1,
        below_ceiling p l ds n
            g.period_low g.rows_low g.rows_high,
      )
