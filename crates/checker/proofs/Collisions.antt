-- What the walk over the rows can name, and that it is the first collision in document 01's order. Assumes nothing.
use mathlib.Core.Path.{◌≡◌, refl, ◌∙◌, ap}
use mathlib.Core.Bool.{Bool, true, false, not, cond}
use mathlib.Core.Logic.{◌⊎◌, inl, inr, ⊎_elim}
use mathlib.Core.List.{List}
use Prim.Native.Nat.{ℕ, ◌≤◌, ◌<◌}
use native.Mathlib.Omega.{arith}
use lib.ListN.{length, get_or}
use borrow.Author.Tests.{ltb-true}
use Rattle.ground.specs.Least.{least, some}
use Rattle.link.specs.Rows.{Crossing, numbered, start, hits, free, met_at, is_nobody, blocked}
use Rattle.ground.specs.Judging.{Judged}
use Rattle.ground.specs.Judging.{Fine, Fault}
use Rattle.link.specs.Rows.{Met}
use Rattle.link.specs.Rows.{Nobody, Row}
use Rattle.ground.specs.Protocol.{unless}
use Rattle.ground.proofs.Answers.{let_through, Told, stopped, through, told}
use Rattle.ground.proofs.Bools.{clash, never, lt_or_ge}
use Rattle.link.proofs.OnCircle.{meets_true, meets_slot}
use Rattle.link.proofs.Meeting.{FirstHit, hit_is, hit_either}
use Rattle.ground.proofs.Minimum.{least_is, none_has, some_at}
use Rattle.checker.specs.Answer.{Said, Verdict, clearly, colliding, refusing, met_by, name_as, named}
use Rattle.checker.specs.Order.{Collides, NotAfter, FirstCollision}
use Rattle.checker.proofs.Naming.{met_blocked}

-- the two things that the walk over the rows can name
pub data Naming (p l : ℕ) (ds os : List ℕ) : Said → Type 0 where
  nobody : ((j : ℕ) → j < length ds → blocked p l ds os j ≡ false) → Naming p l ds os clearly
  earliest : (i j c : ℕ) → j < length ds → ((m : ℕ) → m < j → blocked p l ds os m ≡ false) → met_by p l ds os j ≡ Row i c
      → Naming p l ds os (colliding i j c)

pub naming : (p l : ℕ) (ds os : List ℕ) → Naming p l ds os (named p l ds os)
unfolding named
naming p l ds os = go (some (blocked p l ds os) (length ds)) refl
  where
    at : ℕ
    at = least (blocked p l ds os) (length ds)

    pick : (m : Met) → met_by p l ds os at ≡ m → at < length ds → not (is_nobody m) ≡ true → Naming p l ds os (name_as at m)
    pick Nobody e h b = never (cc)
    pick (Row i c) e h b = earliest i at c h (least_is (blocked p l ds os) (length ds)).before e

    go : (b : Bool) → some (blocked p l ds os) (length ds) ≡ b → Naming p l ds os (cond b (name_as at (met_by p l ds os at)) clearly)
    go true e =
        let h = ltb-true at (length ds) e in
        pick (met_by p l ds os at) refl h (met_blocked p l ds os at ∙ (least_is (blocked p l ds os) (length ds)).here h)
    go false e = nobody (none_has (blocked p l ds os) (length ds) e)

-- one verdict is not another
abbrev verdict : Said → Verdict
verdict s = s.verdict

module _ (p l : ℕ) (ds os : List ℕ) where
  pub record Earliest (i j c : ℕ) : Type 0 where
    pub row : j < length ds
    pub before : (m : ℕ) → m < j → blocked p l ds os m ≡ false
    pub met : met_by p l ds os j ≡ Row i c

  -- what an answer says of the judging, and of the rows
  pub clear_told : (f : Judged) {s : Said} → Naming p l ds os s → clearly ≡ unless refusing f s
      → (f ≡ Fine) × ((j : ℕ) → j < length ds → blocked p l ds os j ≡ false)
  clear_told f {s} w e = let t = let_through refusing f (λ n q h. never (cc (ap verdict h))) e in (t.0, go w t.1)
    where
      go : {x : Said} → Naming p l ds os x → clearly ≡ x → (j : ℕ) → j < length ds → blocked p l ds os j ≡ false
      go (nobody b) h = b
      go (earliest i j c r b m) h = never (cc (ap verdict h))

  pub collision_told : (f : Judged) {s : Said} (i j c : ℕ) → Naming p l ds os s → colliding i j c ≡ unless refusing f s
      → (f ≡ Fine) × Earliest i j c
  collision_told f {s} i j c w e = let t = let_through refusing f (λ n q h. never (cc (ap verdict h))) e in (t.0, go w t.1)
    where
      go : {x : Said} → Naming p l ds os x → colliding i j c ≡ x → Earliest i j c
      go (nobody b) h = never (cc (ap verdict h))
      go (earliest i' j' c' r b m) h =
          let u : i ≡ i' = ap (λ (x : Said). x.earlier) h in
          let v : j ≡ j' = ap (λ (x : Said). x.later) h in
          let w : c ≡ c' = ap (λ (x : Said). x.crossing) h in
          rw (u, v, w) (record { row = r; before = b; met = m })

  pub refusal_told : (f : Judged) {s : Said} (n q : ℕ) → Naming p l ds os s → refusing n q ≡ unless refusing f s → f ≡ Fault n q
  refusal_told f {s} n q w e = go (told refusing f e) w
    where
      go : {x : Said} → Told refusing f x (refusing n q) → Naming p l ds os x → f ≡ Fault n q
      go (stopped m z g h) y =
          let u : n ≡ m = ap (λ (x : Said). x.number) h in
          let v : q ≡ z = ap (λ (x : Said). x.place) h in
          rw (u, v) g
      go (through g h) (nobody b) = never (cc (ap verdict h))
      go (through g h) (earliest i j c r b m) = never (cc (ap verdict h))

  collides_blocked : 0 < p → (i j : ℕ) (c : Crossing) → Collides p l ds os i j c → blocked p l ds os j ≡ true
  unfolding blocked free hits start
  collides_blocked h i j c q =
      ap (λ (b : Bool). not (not b))
      (some_at _ j i q.earlier (hit_either (hits p l ds os (get_or ds j 0) (get_or os j 0)) c i (meets_true _ _ _ _ h q.meet)))

  module _ (i j n : ℕ) (e : Earliest i j n) (h : 0 < p) where
    hit : Crossing → ℕ → Bool
    hit = hits p l ds os (get_or ds j 0) (get_or os j 0)

    first_hit : (c : Crossing) × (n ≡ numbered c) × FirstHit hit j i c
    unfolding met_by met_at hit
    first_hit = hit_is (hits p l ds os (get_or ds j 0) (get_or os j 0)) j i n e.met

    -- another collision is not before it: by its later row, then its earlier row, then the crossing
    not_after : (c : Crossing) → FirstHit hit j i c → (i' j' : ℕ) (c' : Crossing) → Collides p l ds os i' j' c' → NotAfter i j c i' j' c'
    unfolding hit hits start
    not_after c f i' j' c' q = ⊎_elim inl (λ g. inr (same g, same_row (same g))) (lt_or_ge j j')
      where
        same : j' ≤ j → j ≡ j'
        same g = ⊎_elim (λ m. clash (collides_blocked h i' j' c' q) (e.before j' m)) (λ m. omega arith) (lt_or_ge j' j)

        met : j ≡ j' → hits p l ds os (get_or ds j 0) (get_or os j 0) c' i' ≡ true
        met g = rw g (meets_true _ _ _ _ h q.meet)

        same_row : j ≡ j' → (i < i') ⊎ ((i ≡ i') × (numbered c ≤ numbered c'))
        same_row g =
            ⊎_elim inl
            (λ m. ⊎_elim (λ o. clash (hit_either (hits p l ds os (get_or ds j 0) (get_or os j 0)) c' i' (met g)) (f.before i' o))
            (λ o. let s : i ≡ i' = omega arith in inr (s, f.first c' (rw s (met g)))) (lt_or_ge i' i))
            (lt_or_ge i i')

    pub first_collision : FirstCollision p l ds os i j n
    unfolding hit hits start
    first_collision =
        let w = first_hit in
        record {
          crossing = w.0;
          number = w.1;
          collides = record { earlier = w.2.row; later = e.row; meet = meets_slot _ _ _ _ w.2.here };
          least = not_after w.0 w.2;
        }
