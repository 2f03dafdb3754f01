-- Where a clear plan agrees with the rows placed so far, good steps lead on to a whole build; and any clear plan can be turned so
-- that row 0 stands at 0. Assumes nothing.
use mathlib.Core.Path.{◌≡◌}
use mathlib.Core.Bool.{not}
use mathlib.Core.List.{List, [], ◌∷◌}
use Prim.Native.Nat.{ℕ, zero, suc, ◌+◌, ◌-◌, ◌<◌, ◌≤◌}
use native.Mathlib.Omega.{arith}
use native.Mathlib.Nat.{mod_self}
use lib.ListN.{get_or}
use borrow.Author.Tests.{not-true}
use Rattle.ground.proofs.Counting.{count_some}
use Rattle.link.specs.Limits.{max_rows}
use Rattle.link.specs.Slots.{after}
use Rattle.link.proofs.OnCircle.{after_low}
use Rattle.link.proofs.Meeting.{start_low}
use Rattle.link.proofs.Turning.{start_on, apart_moved}
use Rattle.search.specs.Steps.{Step, rules, placed}
use Rattle.search.specs.Builds.{Build, done, onward, begin}
use Rattle.search.proofs.Listing.{steps_are}
use Rattle.search.proofs.States.{At, put_at, begin_free, begin_at}
use Rattle.search.proofs.Completeness.{Plan, Extends, reach, touch_good, touch_extends}

module _ (p l : ℕ) (ds : List ℕ) (n : ℕ) (hl : 0 < l) (lp : l ≤ p) (hn : 0 < n) where
  pub builds : (u : ℕ) (s : List ℕ) → At p n u s → (A : ℕ → ℕ) → Plan p l ds n A → Extends p n s A
      → (q : List Step) × Build (rules p l ds n) u s q
  builds zero s a A pl x = ([], done)
  builds (suc u) s a A pl x =
      let w = count_some (λ i. not (placed p s i)) n (omega (arith, a.left)) in
      let j = w.0 in
      let t = reach p l ds n hl lp hn s a.first j w.1 (not-true (placed p s j) w.2) (A j) A pl x (omega arith) in
      let is = steps_are p n s t.hit t.mem in
      let next = builds u _ (put_at p l ds s t.hit n u (omega arith) is a) t.plan t.clear
      (touch_extends p l ds n hl lp hn s a.first a.long t.plan t.clear t.extends t.hit is t.holds) in (
        t.hit ∷ next.0,
        onward t.mem (touch_good p l ds n hl lp hn s a.first a.long t.plan t.clear t.extends
            t.hit is t.holds) next.1,
      )

module _ (p l : ℕ) (ds : List ℕ) (n : ℕ) (A : ℕ → ℕ) (a : Plan p l ds n A) where
  -- turned by r slots, all rows start r slots on in both crossings
  turned_plan : (r : ℕ) → 0 < p → l ≤ p → Plan p l ds n (λ i. after p r (A i))
  turned_plan r some lp =
      record {
        inside = λ i q. after_low p some r (A i);
        apart = λ c i j hi hj m.
            rw (start_on p r some c (get_or ds i 0) (A i), start_on p r some c (get_or ds j 0) (A j))
            (apart_moved p r some l _ _ (start_low p c _ _ (a.inside i hi)) (start_low p c _ _ (a.inside j hj)) lp
            (a.apart c i j hi hj m));
      }

  -- "Row 0 stands at offset 0": some build begins so wherever any offsets are clear
  pub complete : 0 < l → l ≤ p → 0 < n → n ≤ max_rows → (q : List Step) × Build (rules p l ds n) (n - 1) (begin p) q
  unfolding after
  complete hl lp hn few =
      builds p l ds n hl lp hn (n - 1) (begin p) (begin_at p n (omega arith) hn few) (λ i. after p (p - A 0) (A i))
      (turned_plan (p - A 0) (omega arith) lp) agrees
    where
      agrees : Extends p n (begin p) (λ i. after p (p - A 0) (A i))
      agrees i h e =
          let z = begin_free p n (omega arith) hn few i h e in
          let q : A 0 + (p - A 0) ≡ p = omega (arith, a.inside 0 hn) in
          rw (z, q) (mod_self p)
