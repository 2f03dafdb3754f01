-- One candidate: what trying it answers, and that the second starts keep to the offsets. Assumes nothing.
use mathlib.Core.Path.{◌≡◌, refl, sym, ap, ◌∙◌}
use mathlib.Core.Bool.{Bool, true, false, not}
use mathlib.Core.List.{List}
use Prim.Native.Nat.{ℕ, ◌-◌, ◌*◌, ◌/◌, ◌<◌, ◌≤◌}
use native.Mathlib.Omega.{arith}
use lib.Dec.{eqb}
use lib.ListN.{get_or, set, length-set}
use lib.Seq.{get_or-set_same, get_or-set_other}
use borrow.Author.Tests.{eqb-true, eqb-false, not-true, not-false}
use Rattle.ground.proofs.Filling.{put_back}
use Rattle.link.specs.Limits.{max_rows}
use Rattle.link.specs.Rows.{second}
use Rattle.search.specs.Steps.{rules, good, puts, put, is_step}
use Rattle.search.specs.Builds.{Out}
use Rattle.search.specs.Numbering.{step_at}
use Rattle.search.specs.Search.{more, tried, Answered, Table, Starts, unblocked}
use Rattle.search.specs.declared.Hunt.{Hunt}
use Rattle.search.specs.declared.Hunt.TheVariants.{Found, Nothing, Spent}
use Rattle.search.proofs.Answering.{ended, spent_more, ends, found_from, nothing_from, spent_from}
use Rattle.search.proofs.Blocking.{unblocked_good}
use Rattle.search.proofs.Numbers.{names_at}

-- the row of a number
abbrev row_of : ℕ → ℕ
row_of k = k / (2 * max_rows)

module _ {p : ℕ} {ds : List ℕ} {n : ℕ} (few : n ≤ max_rows) {xs ys : List ℕ} (st : Starts p ds n xs ys) {j : ℕ} (hj : j < n) where
  pub starts_put : (a : ℕ) {b : ℕ} → b ≡ second p (get_or ds j 0) a → Starts p ds n (set xs j a) (set ys j b)
  starts_put a {b} e =
      record {
        xs_length = length-set xs j a ∙ st.xs_length;
        ys_length = length-set ys j b ∙ st.ys_length;
        seconds = λ i h q. go i h q (eqb i j) refl;
      }
    where
      go : (i : ℕ) → i < n → get_or (set xs j a) i 0 < p → (z : Bool) → eqb i j ≡ z
          → get_or (set ys j b) i 0 ≡ second p (get_or ds i 0) (get_or (set xs j a) i 0)
      go i h q true z =
          let w : i ≡ j = eqb-true i j z in
          rw (w, get_or-set_same xs j a 0 (omega (arith, st.xs_length)), get_or-set_same ys j b 0 (omega (arith, st.ys_length))) e
      go i h q false z =
          let o = eqb-false i j z in
          let x : get_or (set xs j a) i 0 ≡ get_or xs i 0 = get_or-set_other xs j i a 0 o in
          rw (x, get_or-set_other ys j i b 0 o) (st.seconds i h (rw x at q))

  -- where j was not placed, the other rows' second starts are still right without it
  pub starts_put_back : (a b : ℕ) {xs' ys' : List ℕ} → p ≤ get_or xs j 0 → xs' ≡ set xs j a → Starts p ds n xs' ys'
      → Starts p ds n (set xs' j (get_or xs j 0)) (set ys' j b)
  starts_put_back a b {xs'} {ys'} f e new =
      rw (put_back xs xs' j a e)
      (record {
        xs_length = st.xs_length;
        ys_length = length-set ys' j b ∙ new.ys_length;
        seconds = λ i h q.
            let x : get_or xs' i 0 ≡ get_or xs i 0 = ap (λ (z : List ℕ). get_or z i 0) e ∙ get_or-set_other xs j i a 0 (apart i q) in
            get_or-set_other ys' j i b 0 (apart i q) ∙ new.seconds i h (rw x q) ∙ ap (second p (get_or ds i 0)) x;
      })
    where
      apart : (i : ℕ) → get_or xs i 0 < p → i ≡ j → ⊥
      apart i q z = let w : get_or xs i 0 ≡ get_or xs j 0 = ap (λ (y : ℕ). get_or xs y 0) z in omega arith

module _ {p l : ℕ} {ds : List ℕ} {n : ℕ} (t : Table p l ds n) {s ys : List ℕ} (st : Starts p ds n s ys) (k : ℕ)
    (is : is_step p n s (step_at k) ≡ true) {a b : ℕ} (ha : (a ≡ puts p l ds s (step_at k)) × (a < p))
    (hb : b ≡ second p (get_or ds (row_of k) 0) a) {r : Bool} (hr : r ≡ unblocked p l s ys n a b) where
  is_good : r ≡ good p l ds n s (step_at k)
  unfolding step_at
  is_good = unblocked_good p l ds n t s ys st (step_at k) a b r ha.1 ha.0 hb hr

  module _ (d : List ℕ → Out) (left : ℕ) (some : 0 < left) where
    -- one test more, and one test more to spend
    one_more : (h : Hunt) (s' : List ℕ) → Answered (left - 1) s (tried (rules p l ds n) d s (step_at k)) h s'
        → Answered left s (more 1 (tried (rules p l ds n) d s (step_at k))) h s'
    one_more h s' w = spent_more left 1 s _ h s' (omega arith) w

    pub hands_over : not r ≡ true → Answered left s (more 1 (tried (rules p l ds n) d s (step_at k))) (Nothing (left - 1)) s
    unfolding tried
    hands_over e = one_more (Nothing (left - 1)) s (rw (sym is_good ∙ not-true r e) (ended (left - 1) s))

    goes_deeper : not r ≡ false → d (set s (row_of k) a) ≡ tried (rules p l ds n) d s (step_at k)
    unfolding tried put step_at
    goes_deeper e = rw (sym is_good ∙ not-false r e, ha.0)

    module _ (e : not r ≡ false) {s' ys' : List ℕ} (new : Starts p ds n s' ys') where
      abbrev there : List ℕ
      there = set s (row_of k) a

      abbrev again : List ℕ
      again = set s' (row_of k) (get_or s (row_of k) 0)

      row_again : (y : ℕ) → s' ≡ set s (row_of k) a → Starts p ds n (set s' (row_of k) (get_or s (row_of k) 0)) (set ys' (row_of k) y)
      row_again y q = let w = names_at p n s k is in starts_put_back t.rows st w.row_low a y w.row_free q new

      pub finds : {m : ℕ} → Answered (left - 1) there (d there) (Found m) s'
          → Answered left s (more 1 (tried (rules p l ds n) d s (step_at k))) (Found m) s'
      finds {m} w = one_more (Found m) s' (rw (← goes_deeper e) (found_from (left - 1) there s s' (d there) m w))

      -- where nothing was found, the row's start is put back
      pub in_vain : (y : ℕ) (h : Hunt) → ((m : ℕ) → h ≡ Found m → ⊥) → Answered (left - 1) there (d there) h s'
          → Answered left s (more 1 (tried (rules p l ds n) d s (step_at k))) h again × Starts p ds n again (set ys' (row_of k) y)
      in_vain y h other w = (one_more h again (answered h other w), row_again y (same h other w))
        where
          same : (h : Hunt) → ((m : ℕ) → h ≡ Found m → ⊥) → Answered (left - 1) there (d there) h s' → s' ≡ there
          same (Found m) other w = absurd (other m refl)
          same (Nothing m) other w = (ends (left - 1) there s' _ (Nothing m) w).same
          same Spent other w = (ends (left - 1) there s' _ Spent w).same

          answered : (h : Hunt) → ((m : ℕ) → h ≡ Found m → ⊥) → Answered (left - 1) there (d there) h s'
              → Answered (left - 1) s (tried (rules p l ds n) d s (step_at k)) h again
          answered (Found m) other w = absurd (other m refl)
          answered (Nothing m) other w =
              rw (← goes_deeper e, put_back s s' (row_of k) a (same (Nothing m) other w)) (nothing_from (left - 1) there s s' (d there) m w)
          answered Spent other w =
              rw (← goes_deeper e, put_back s s' (row_of k) a (same Spent other w)) (spent_from (left - 1) there s s' (d there) w)
