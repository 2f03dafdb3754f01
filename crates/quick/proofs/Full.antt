-- Tables that are full for their last row: each of the planner's offsets meets an earlier row there. Assumes nothing.
use mathlib.Core.Path.{◌≡◌, sym, ap, ◌∙◌}
use mathlib.Core.Bool.{true, false, not}
use mathlib.Core.Logic.{◌⊎◌, ⊎_elim}
use mathlib.Core.List.{List, [], ◌∷◌}
use Prim.Native.Nat.{ℕ, ◌+◌, ◌-◌, ◌*◌, ◌/◌, ◌≤◌, ◌<◌}
use native.Mathlib.Omega.{arith}
use native.Mathlib.Nat.{mod-eq_of_lt, add-mod_right, zero-mul, one-mul, mul-le-mul_right}
use native.Mathlib.Nat.{div-mul-le_self, lt-div-mul-add, div-lt_iff_lt-mul}
use lib.ListN.{length, get_or, length-append, get_or-append}
use lib.Seq.{get_or_at}
use Rattle.ground.specs.Protocol.{gives}
use Rattle.ground.specs.Series.{listed}
use Rattle.ground.proofs.Bools.{lt_or_ge}
use Rattle.ground.proofs.Minimum.{some_at, some_none}
use Rattle.ground.proofs.Series.{length_listed, get_or_listed}
use Rattle.link.specs.Limits.{max_period, max_rows}
use Rattle.link.specs.Range.{GoodTable}
use Rattle.link.specs.Rows.{one, two, second, start, hits, either, free}
use Rattle.link.specs.Slots.{gap}
use Rattle.link.proofs.OnCircle.{Apart, apart_met, near_met}
use Rattle.link.proofs.Meeting.{neither, hit_either}
use Rattle.quick.specs.Answer.{Planned, thirteen, said, quick}
use Rattle.quick.specs.Loads.{full_delays}
use Rattle.quick.specs.Plan.{free_at}
use Rattle.quick.specs.Right.{LeastFree, Stuck}
use Rattle.quick.proofs.Candidates.{next_low}
use Rattle.quick.proofs.Promises.{thirteen_exactly}

-- u rows on 0, t, .., (u-1)t that start in crossing 2 at least t slots apart
pub record Spread (d : ℕ → ℕ) (p t u : ℕ) : Type 0 where
  pub rows : 1 ≤ u
  pub some : 1 ≤ t
  pub fits : u * t ≤ p
  pub next : (i j : ℕ) → i < j → j < u → i * t + d i + t ≤ j * t + d j
  pub high : (i : ℕ) → i < u → i * t + d i + t ≤ p

-- an offset from u t on that is taken all the same: in crossing 2, or in crossing 1 by row 0, which follows over the period's end
abbrev pub Covered : (ℕ → ℕ) → ℕ → ℕ → ℕ → ℕ → Type 0
Covered d p t u a = ((i : ℕ) × (i < u) × (gap (i * t + d i) (a - u * t) < t)) ⊎ (p < a + t)

-- these rows, and a last one of the delay p - u t
module _ (d : ℕ → ℕ) (p t u : ℕ) (w : Spread d p t u) where
  abbrev ds : List ℕ
  ds = full_delays d p t u

  abbrev os : List ℕ
  os = listed (λ i. i * t) u

  rows_of : length ds ≡ u + 1
  rows_of = length-append (listed d u) ((p - u * t) ∷ []) ∙ ap (λ (n : ℕ). n + 1) (length_listed d u)

  delay : (i : ℕ) → i < u → get_or ds i 0 ≡ d i
  delay i h = get_or-append (listed d u) ((p - u * t) ∷ []) 0 i (omega (arith, length_listed d u)) ∙ get_or_listed d 0 u i h

  last : get_or ds u 0 ≡ p - u * t
  last = get_or_at (listed d u) (p - u * t) [] 0 u (length_listed d u)

  stands : (i : ℕ) → i < u → get_or os i 0 ≡ i * t
  stands = get_or_listed (λ i. i * t) 0 u

  second_of : (i : ℕ) → i < u → second p (get_or ds i 0) (i * t) ≡ i * t + d i
  unfolding second
  second_of i h = rw (delay i h) (mod-eq_of_lt (omega (arith, w.high i h)))

  last_of : (a : ℕ) → u * t ≤ a → a < p → second p (get_or ds u 0) a ≡ a - u * t
  unfolding second
  last_of a h l =
      let e : a + (p - u * t) ≡ a - u * t + p = omega arith in
      rw (last, e) (add-mod_right (a - u * t) p ∙ mod-eq_of_lt (omega arith))

  -- row j with the offset a meets one of the first k rows
  abbrev MeetsOne : ℕ → ℕ → ℕ → Type 0
  MeetsOne j k a = (i : ℕ) × (i < k) × (either (hits p t ds os (get_or ds j 0) a) i ≡ true)

  -- in crossing 1, or the last row in crossing 2
  met_one : (j a i : ℕ) → i < u → a < p → (Apart p t (i * t) a → ⊥) → either (hits p t ds os (get_or ds j 0) a) i ≡ true
  unfolding hits start
  met_one j a i h l near =
      let low = next_low i u t h in
      hit_either _ one i (rw (stands i h) (near_met p t (i * t) a (omega arith) l (omega arith) near))

  met_two : (a i : ℕ) → i < u → u * t ≤ a → a < p → gap (i * t + d i) (a - u * t) < t → either (hits p t ds os (get_or ds u 0) a) i ≡ true
  unfolding hits start
  met_two a i h k l near =
      let top = w.high i h in
      hit_either _ two i (rw (stands i h, second_of i h, last_of a k l)
      (near_met p t (i * t + d i) (a - u * t) (omega arith) (omega arith) (omega arith) (λ apart. omega arith)))

  -- a row before the last meets nobody where it stands, and an earlier row at each smaller offset
  not_met : (i j : ℕ) → i < j → j < u → either (hits p t ds os (get_or ds j 0) (j * t)) i ≡ false
  unfolding hits start
  not_met i j h k =
      let a = next_low i j t h in
      let b = next_low j u t k in
      let far = w.next i j h k in
      let top = w.high j k in
      let q : i < u = omega arith in
      neither _ i (rw (stands i q) (apart_met p t (i * t) (j * t) (omega arith) (omega arith) (omega arith) (omega arith)))
      (rw (stands i q, second_of i q, second_of j k)
      (apart_met p t (i * t + d i) (j * t + d j) (omega arith) (omega arith) (omega arith) (omega arith)))

  met_before : (j k a : ℕ) → k ≤ u → a < k * t → MeetsOne j k a
  met_before j k a h l =
      let i = a / t in
      let q : i < k = (div-lt_iff_lt-mul w.some).1 l in
      let most = mul-le-mul_right t h in
      let from = div-mul-le_self a t in
      let to = lt-div-mul-add {a = a} w.some in
      (i, q, met_one j a i (omega arith) (omega arith) (λ apart. omega arith))

  last_met : (a : ℕ) → a < p → (u * t ≤ a → Covered d p t u a) → MeetsOne u u a
  last_met a l cover =
      ⊎_elim (λ b. met_before u u a (omega arith) b)
      (λ b. ⊎_elim (λ v. (v.0, v.1, met_two a v.0 v.1 b l v.2))
      (λ over. (0, w.rows, met_one u a 0 w.rows l (λ apart. omega (arith, zero-mul t)))) (cover b)) (lt_or_ge a (u * t))

  in_range : u < max_rows → p ≤ max_period → GoodTable (record { period = p; size = t }) ds
  in_range many low =
      let one_span = mul-le-mul_right t w.rows in
      let is_one = one-mul t in
      record {
        period_low = omega arith;
        period_high = low;
        span_low = w.some;
        span_high = omega arith;
        rows_low = omega (arith, rows_of);
        rows_high = omega (arith, rows_of);
        delays = λ i h. ⊎_elim (λ l. omega (arith, delay i l, w.high i l))
            (λ l. let e : i ≡ u = omega (arith, rows_of) in omega (arith, ap (λ (j : ℕ). get_or ds j 0) e, last)) (lt_or_ge i u);
      }

  -- a planner that looks at each i t, by its index, and whose offsets from u t on are taken
  module _ (step count : ℕ) (index : ℕ → ℕ) (at : (i : ℕ) → i < u → index i * step ≡ i * t) (inside : (i : ℕ) → i < u → index i < count)
      (some_step : 0 < step)
      (low : (c : ℕ) → c < count → c * step < p) (cover : (c : ℕ) → c < count → u * t ≤ c * step → Covered d p t u (c * step)) where
    not_free : (j c : ℕ) → MeetsOne j j (c * step) → free_at p t ds os j step c ≡ false
    unfolding free_at free
    not_free j c v = ap not (some_at _ j v.0 v.1 v.2)

    free_there : (j : ℕ) → j < u → free_at p t ds os j step (index j) ≡ true
    unfolding free_at free
    free_there j h = rw (at j h) (ap not (some_none _ j (λ i q. not_met i j q h)))

    least_free : (j : ℕ) → j < u → LeastFree p t ds step count os j (index j)
    least_free j h =
        record {
          candidate = inside j h;
          is_free = free_there j h;
          least = λ c q.
              not_free j c (met_before j j (c * step) (omega arith) (omega (arith, next_low c (index j) step q, at j h, some_step)));
        }

    full_stuck : Stuck p t ds step count u
    full_stuck =
        record {
          offsets = os;
          before = record { as_many = length_listed (λ i. i * t) u; each = λ j h. (index j, stands j h ∙ sym (at j h), least_free j h) };
          none = λ c h. not_free u c (last_met (c * step) (low c h) (cover c h));
        }

    -- the last row gets 13
    pub last_refused : u < max_rows → p ≤ max_period → (old : List ℕ) → u < length old → (r : Planned) (new : List ℕ)
        → gives (said r) new ≡ quick (record { period = p; size = t }) ds old step count → r ≡ thirteen u
    last_refused many short old room r new e =
        (thirteen_exactly (record { period = p; size = t }) ds old step count r new e u).1
        (record { table = in_range many short; room = omega (arith, rows_of); row = omega (arith, rows_of); stuck = full_stuck })
