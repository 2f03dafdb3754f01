-- Where some offsets are clear, a step leads on: rows that are not placed move back slot by slot, all together, until one touches a
-- placed row; that step is good, and the offsets agree with where it leads. Assumes nothing.
use mathlib.Core.Path.{◌≡◌, refl, sym, ap, ◌∙◌, subst}
use mathlib.Core.Logic.{⊎_elim}
use mathlib.Core.Bool.{Bool, true, false, ◌&&◌, not, cond}
use mathlib.Core.List.{List, Memᴰ}
use Prim.Native.Nat.{ℕ, zero, suc, ◌-◌, ◌<◌, ◌≤◌}
use native.Mathlib.Omega.{arith}
use lib.Dec.{eqb}
use lib.ListN.{length, get_or}
use borrow.Author.Tests.{lt-ltb, eq-eqb, eqb-true, eqb-false}
use Rattle.link.specs.Rows.{Crossing, one, two, start, start_at, hits, either}
use Rattle.link.specs.Slots.{after}
use Rattle.ground.proofs.Bools.{clash}
use Rattle.ground.proofs.Series.{look}
use Rattle.link.proofs.OnCircle.{Apart, Turned, apart_sym, apart_met}
use Rattle.ground.proofs.Minimum.{some_none}
use Rattle.link.proofs.Meeting.{start_low, neither}
use Rattle.link.proofs.Touching.{apart_both, apart_one, start_back}
use Rattle.search.specs.Steps.{Step, step, placed, puts, in_the_way, good, put, steps, is_step}
use Rattle.search.proofs.Listing.{steps_have}
use Rattle.search.proofs.Offsets.{offset_start}
use Rattle.search.proofs.Numbers.{names}
use Rattle.search.proofs.States.{is_placed, placed_low, not_placed, put_other, put_here}

-- a clear plan, row by row
pub record Plan (p l : ℕ) (ds : List ℕ) (n : ℕ) (A : ℕ → ℕ) : Type 0 where
  pub inside : (i : ℕ) → i < n → A i < p
  pub apart : (c : Crossing) (i j : ℕ) → i < n → j < n → (i ≡ j → ⊥)
      → Apart p l (start_at p c (get_or ds i 0) (A i)) (start_at p c (get_or ds j 0) (A j))

-- it agrees with the rows that are placed
abbrev pub Extends : ℕ → ℕ → List ℕ → (ℕ → ℕ) → Type 0
Extends p n s A = (i : ℕ) → i < n → placed p s i ≡ true → A i ≡ get_or s i 0

step_is : (p n : ℕ) (s : List ℕ) (j i : ℕ) (c : Crossing) → i < n → j < n → placed p s i ≡ true → placed p s j ≡ false
    → is_step p n s (step j i c) ≡ true
unfolding is_step
step_is p n s j i c hi hj pi pj = rw (lt-ltb j n hj, lt-ltb i n hi, pi, pj)

module _ (p l : ℕ) (ds : List ℕ) (n : ℕ) (hl : 0 < l) (lp : l ≤ p) (hn : 0 < n) (s : List ℕ) (row0 : get_or s 0 0 ≡ 0) where
  row0_placed : placed p s 0 ≡ true
  row0_placed = is_placed p s 0 (omega arith)

  -- the step puts its row where A has it
  pub touches : (ℕ → ℕ) → Step → Bool
  touches A k = eqb (A k.row) (puts p l ds s k)

  module _ (A : ℕ → ℕ) (a : Plan p l ds n A) (x : Extends p n s A) where
    -- where a row starts
    abbrev st : Crossing → ℕ → ℕ
    st c i = start_at p c (get_or ds i 0) (A i)

    st_low : (c : Crossing) (i : ℕ) → i < n → st c i < p
    st_low c i h = start_low p c (get_or ds i 0) (A i) (a.inside i h)

    -- a row that is not placed stands at l or later
    later : (j : ℕ) → j < n → placed p s j ≡ false → l ≤ A j
    later j h e =
        let w = a.apart one 0 j hn h (λ z. clash (row0_placed) (ap (placed p s) z ∙ e)) in
        let z : A 0 ≡ 0 = x 0 hn row0_placed ∙ row0 in
        omega arith

    -- a row right after a placed one is where a step puts it
    touch_at : (c : Crossing) (i j : ℕ) → i < n → j < n → placed p s i ≡ true → placed p s j ≡ false
        → st c j ≡ after p l (st c i)
        → touches A (step j i c) ≡ true
    unfolding touches puts start
    touch_at c i j hi hj pi pj e =
        eq-eqb _ _ (sym (offset_start p (omega arith) c (get_or ds j 0) (A j) (a.inside j hj)) ∙ rw (e, x i hi pi))

    module _ (no : (k : Step) → Memᴰ k (steps p n s) → touches A k ≡ false) where
      free_of : (c : Crossing) (i j : ℕ) → i < n → j < n → placed p s i ≡ true → placed p s j ≡ false
          → st c j ≡ after p l (st c i) → ⊥
      free_of c i j hi hj pi pj e =
          clash (touch_at c i j hi hj pi pj e) (no (step j i c) (steps_have p n s (step j i c) (step_is p n s j i c hi hj pi pj)))

      -- the rows that are not placed, one slot back
      abbrev moved : Bool → ℕ → ℕ
      moved b i = cond b (A i) (A i - 1)

      back_one : (c : Crossing) (j : ℕ) → j < n → placed p s j ≡ false
          → Turned p (suc (start_at p c (get_or ds j 0) (A j - 1))) (st c j)
      back_one c j h e =
          let w = later j h e in
          let q : A j ≡ suc (A j - 1) = omega arith in
          subst (λ (y : ℕ). Turned p (suc (start_at p c (get_or ds j 0) (A j - 1))) (start_at p c (get_or ds j 0) y)) (sym q)
          (start_back p c (get_or ds j 0) (A j - 1) (omega (arith, a.inside j h)))

      back_low : (c : Crossing) (j : ℕ) → j < n → start_at p c (get_or ds j 0) (A j - 1) < p
      back_low c j h = start_low p c (get_or ds j 0) (A j - 1) (omega (arith, a.inside j h))

      still : (c : Crossing) (i j : ℕ) → i < n → j < n → (i ≡ j → ⊥) → (b d : Bool) → placed p s i ≡ b → placed p s j ≡ d
          → Apart p l (start_at p c (get_or ds i 0) (moved b i)) (start_at p c (get_or ds j 0) (moved d j))
      still c i j hi hj m true true pi pj = a.apart c i j hi hj m
      still c i j hi hj m true false pi pj =
          apart_one p l _ _ _ hl lp (st_low c i hi) (back_low c j hj) (a.apart c i j hi hj m) (back_one c j hj pj)
          (free_of c i j hi hj pi pj)
      still c i j hi hj m false true pi pj =
          apart_sym p l _ _
          (apart_one p l _ _ _ hl lp (st_low c j hj) (back_low c i hi) (a.apart c j i hj hi (λ z. m (sym z))) (back_one c i hi pi)
          (free_of c j i hj hi pj pi))
      still c i j hi hj m false false pi pj =
          apart_both p l _ _ _ _ hl (back_low c i hi) (back_low c j hj) (a.apart c i j hi hj m) (back_one c i hi pi) (back_one c j hj pj)

      moved_plan : Plan p l ds n (λ i. moved (placed p s i) i)
      moved_plan = record {
        inside = λ i h. in_moved (placed p s i) i h;
        apart = λ c i j hi hj m. still c i j hi hj m (placed p s i) (placed p s j) refl refl;
      }
        where
          in_moved : (b : Bool) (i : ℕ) → i < n → cond b (A i) (A i - 1) < p
          in_moved true i h = a.inside i h
          in_moved false i h = omega (arith, a.inside i h)

      moved_extends : Extends p n s (λ i. moved (placed p s i) i)
      moved_extends i h e = rw e (x i h e)

  pub record Touching : Type 0 where
    pub plan : ℕ → ℕ
    pub clear : Plan p l ds n plan
    pub extends : Extends p n s plan
    pub hit : Step
    pub mem : Memᴰ hit (steps p n s)
    pub holds : touches plan hit ≡ true

  -- moved back slot by slot, some row comes to touch a placed one
  pub reach : (j : ℕ) → j < n → placed p s j ≡ false → (m : ℕ) (A : ℕ → ℕ) → Plan p l ds n A → Extends p n s A → A j ≤ m → Touching
  reach j hj pj zero A a x h = absurd (omega (arith, later A a x j hj pj))
  reach j hj pj (suc m) A a x h =
      ⊎_elim (λ w. record { plan = A; clear = a; extends = x; hit = w.0; mem = w.1; holds = w.2 })
      (λ no. reach j hj pj m (λ i. cond (placed p s i) (A i) (A i - 1)) (moved_plan A a x no) (moved_extends A a x no)
      (rw pj (omega arith)))
      (look (touches A) (steps p n s))

  -- a touching step is good, and the plan agrees with what it leaves
  module _ (long : n ≤ length s) (A : ℕ → ℕ) (a : Plan p l ds n A) (x : Extends p n s A) (k : Step) (is : is_step p n s k ≡ true)
      (e : touches A k ≡ true) where
    at : A k.row ≡ puts p l ds s k
    unfolding touches
    at = eqb-true _ _ e

    other : (i : ℕ) → placed p s i ≡ true → i ≡ k.row → ⊥
    other i q z = clash (sym (ap (placed p s) z) ∙ q) (not_placed p s k.row (names p n s k is).row_free)

    clear_of : (i : ℕ) → i < n → (b : Bool) → placed p s i ≡ b
        → (b && either (hits p l ds s (get_or ds k.row 0) (puts p l ds s k)) i) ≡ false
    unfolding hits start
    clear_of i h false q = refl
    clear_of i h true q = neither (hits p l ds s (get_or ds k.row 0) (puts p l ds s k)) i (free one) (free two)
      where
        free : (c : Crossing) → hits p l ds s (get_or ds k.row 0) (puts p l ds s k) c i ≡ false
        free c =
            let w = names p n s k is in
            rw (← at, ← x i h q)
            (apart_met p l _ _ (st_low A a x c i h) (st_low A a x c k.row w.row_low) lp
            (a.apart c i k.row h w.row_low (other i q)))

    pub touch_good : good p l ds n s k ≡ true
    unfolding good in_the_way
    touch_good = ap not (some_none _ n (λ i h. clear_of i h (placed p s i) refl))

    pub touch_extends : Extends p n (put p l ds s k) A
    touch_extends i h q = go (eqb i k.row) refl
      where
        go : (b : Bool) → eqb i k.row ≡ b → A i ≡ get_or (put p l ds s k) i 0
        go true z =
            let w : i ≡ k.row = eqb-true _ _ z in
            rw w (at ∙ sym (put_here p l ds s k (omega arith)))
        go false z =
            let o = put_other p l ds s k i (eqb-false _ _ z) in
            x i h (is_placed p s i (rw o at (placed_low p (put p l ds s k) i q))) ∙ sym o
