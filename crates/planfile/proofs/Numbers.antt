-- What the bytes say of a number, byte by byte, and how large it and its length can be. Assumes nothing.
use mathlib.Core.Path.{◌≡◌, refl, sym, ap, ◌∙◌}
use mathlib.Core.Bool.{Bool, true, false, cond}
use mathlib.Core.List.{List, [], ◌∷◌}
use mathlib.Core.Logic.{◌⊎◌, ⊎_elim, inl, inr}
use Prim.Native.Nat.{ℕ, zero, suc, ◌+◌, ◌-◌, ◌*◌, ◌/◌, ◌%◌, ◌^◌, ◌≤◌, ◌<◌}
use native.Mathlib.Omega.{arith}
use native.Mathlib.Numerals.{add-one}
use native.Mathlib.Nat.{mul_comm, mul-le-mul_right, pow-succ'}
use lib.Dec.{ltb, eqb}
use lib.ListN.{length, get_or, drop, set, drop_of_length-le, length-set}
use lib.Seq.{drop-cons}
use borrow.Author.Tests.{lt-ltb, le-ltb, eq-eqb, ne_eqb, ltb-true, eqb-false}
use Rattle.link.specs.Limits.{max_delay}
use Rattle.ground.specs.Lent.{Adds}
use Rattle.ground.proofs.Adding.{one_set, and_then}
use Rattle.ground.proofs.Bools.{never}
use Rattle.planfile.specs.Number.{Number, Value, Cut, TooLong, Needless}
use Rattle.planfile.specs.Number.{more_groups, limit, groups, number_bytes, ending, onto, groups_read, read_number}

-- how the code shows what the bytes from `at` on say
module _ (more : ℕ) (first : Bool) (bs : List ℕ) (at : ℕ) where
  pub ended : length bs ≤ at → Cut ≡ groups_read more first (drop at bs)
  unfolding groups_read
  ended h = rw (drop_of_length-le bs h)

  module _ (lt : at < length bs) where
    pub last_byte : get_or bs at 0 < 128 → ending first (get_or bs at 0) ≡ groups_read more first (drop at bs)
    unfolding groups_read
    last_byte h = rw (drop-cons bs at 0 lt, lt-ltb _ _ h)

    pub too_long : 128 ≤ get_or bs at 0 → more ≡ 0 → TooLong ≡ groups_read more first (drop at bs)
    unfolding groups_read
    too_long h z = rw (drop-cons bs at 0 lt, le-ltb _ _ h, eq-eqb _ _ z)

    pub goes_on : (q : Number) → 128 ≤ get_or bs at 0 → (more ≡ 0 → ⊥) → q ≡ groups_read (more - 1) false (drop (at + 1) bs) →
        onto (get_or bs at 0) q ≡ groups_read more first (drop at bs)
    unfolding groups_read
    goes_on q h z e = rw (drop-cons bs at 0 lt, le-ltb _ _ h, ne_eqb _ _ z, e, add-one)

-- the two ways in which a last byte is judged
pub last_value : (first : Bool) (b : ℕ) → ((b ≡ 0) × (first ≡ true)) ⊎ (b ≡ 0 → ⊥) → Value b 1 ≡ ending first b
unfolding ending
last_value first b = ⊎_elim (λ w. rw (w.0, w.1)) (λ h. rw (ne_eqb _ _ h))

pub zero_after : (first : Bool) (b : ℕ) → b ≡ 0 → first ≡ false → Needless ≡ ending first b
unfolding ending
zero_after first b h f = rw (eq-eqb _ _ h, f)

-- what a number says with i groups before it that say v, its own first of weight w
abbrev behind : ℕ → ℕ → ℕ → Number → Number
behind v w i (Value x n) = Value (v + w * x) (i + n)
behind v w i Cut = Cut
behind v w i TooLong = TooLong
behind v w i Needless = Needless

nothing_behind : (q : Number) → behind 0 1 0 q ≡ q
nothing_behind (Value x n) = let value : 0 + 1 * x ≡ x = omega arith in let many : 0 + n ≡ n = omega arith in λ i. Value (value i) (many i)
nothing_behind Cut = refl
nothing_behind TooLong = refl
nothing_behind Needless = refl

onto_behind : (v w i b : ℕ) (q : Number) → behind v w i (onto b q) ≡ behind (v + b % 128 * w) (w * 128) (i + 1) q
unfolding onto
onto_behind v w i b (Value x n) =
    let value : v + w * (b % 128 + 128 * x) ≡ v + b % 128 * w + w * 128 * x = grind arith in
    let many : i + suc n ≡ i + 1 + n = omega arith in
    λ j. Value (value j) (many j)
onto_behind v w i b Cut = refl
onto_behind v w i b TooLong = refl
onto_behind v w i b Needless = refl

-- i groups of the bytes are read that all have more behind them; they say v
pub record Summing (bs : List ℕ) (v w i : ℕ) : Type 0 where
  pub many : i ≤ more_groups
  pub value : v < w
  pub weight : w ≡ 128 ^ i
  pub left : behind v w i (groups_read (more_groups - i) (eqb i 0) (drop i bs)) ≡ read_number bs

pub summing_none : (bs : List ℕ) → Summing bs 0 1 0
unfolding read_number
summing_none bs = record { many = omega arith; value = omega arith; weight = refl; left = nothing_behind (groups_read more_groups true bs) }

module _ (bs : List ℕ) (v w i : ℕ) (s : Summing bs v w i) where
  -- what the group at i says of the whole
  said : (q : Number) → q ≡ groups_read (more_groups - i) (eqb i 0) (drop i bs) → behind v w i q ≡ read_number bs
  said q e = ap (behind v w i) e ∙ s.left

  pub summing_ended : length bs ≤ i → Cut ≡ read_number bs
  summing_ended h = said Cut (ended (more_groups - i) (eqb i 0) bs i h)

  module _ (lt : i < length bs) where
    pub summing_value : get_or bs i 0 < 128 → ((get_or bs i 0 ≡ 0) × (i ≤ 0)) ⊎ (get_or bs i 0 ≡ 0 → ⊥)
        → Value (v + get_or bs i 0 % 128 * w) (i + 1) ≡ read_number bs
    summing_value h e =
        let last : ((get_or bs i 0 ≡ 0) × (eqb i 0 ≡ true)) ⊎ (get_or bs i 0 ≡ 0 → ⊥) =
        ⊎_elim (λ z. inl (z.0, eq-eqb i 0 (omega arith))) (λ z. inr z) e in
        let whole : get_or bs i 0 % 128 ≡ get_or bs i 0 = omega arith in
        let value : v + get_or bs i 0 % 128 * w ≡ v + w * get_or bs i 0 = grind (arith, whole) in
        ap (λ (x : ℕ). Value x (i + 1)) value
        ∙ said _ (last_value (eqb i 0) _ last ∙ last_byte (more_groups - i) (eqb i 0) bs i lt h)

    pub summing_needless : get_or bs i 0 ≡ 0 → 0 < i → Needless ≡ read_number bs
    summing_needless z h =
        said Needless
        (zero_after (eqb i 0) _ z (ne_eqb i 0 (λ e. omega arith)) ∙ last_byte (more_groups - i) (eqb i 0) bs i lt (omega arith))

    module _ (top : 128 ≤ get_or bs i 0) where
      pub summing_too_long : i ≡ more_groups → TooLong ≡ read_number bs
      summing_too_long e = said TooLong (too_long (more_groups - i) (eqb i 0) bs i lt top (omega arith))

      pub summing_more : (i ≡ more_groups → ⊥) → Summing bs (v + get_or bs i 0 % 128 * w) (w * 128) (i + 1)
      summing_more e =
          let c_low : get_or bs i 0 % 128 * w ≤ 127 * w = mul-le-mul_right w (omega arith) in
          let fewer : more_groups - i - 1 ≡ more_groups - (i + 1) = omega arith in
          let later : eqb (i + 1) 0 ≡ false = ne_eqb (i + 1) 0 (λ z. omega arith) in
          record {
            many = omega (arith, s.many);
            value = omega (arith, s.value);
            weight = rw (s.weight, add-one, pow-succ' 128 i) (mul_comm (128 ^ i) 128);
            left =
                rw (later, ← fewer) (sym (onto_behind v w i (get_or bs i 0) _)
                ∙ said _ (goes_on (more_groups - i) (eqb i 0) bs i lt _ top (λ z. omega (arith, s.many)) refl));
          }

-- a value, the bytes that it takes, and its bounds
pub record Small (more size v n : ℕ) : Type 0 where
  pub value : v < limit more
  pub low : 1 ≤ n
  pub short : n ≤ more + 1
  pub within : n ≤ size

abbrev Bounded : ℕ → ℕ → Number → Type 0
Bounded more size (Value v n) = Small more size v n
Bounded more size Cut = Unit
Bounded more size TooLong = Unit
Bounded more size Needless = Unit

limit_low : (more : ℕ) → 128 ≤ limit more
unfolding limit
limit_low zero = omega arith
limit_low (suc more) = omega (arith, limit_low more)

limit_more : (more : ℕ) → (more ≡ 0 → ⊥) → limit more ≡ 128 * limit (more - 1)
unfolding limit
limit_more zero h = absurd (h refl)
limit_more (suc more) h = let e : more ≡ suc more - 1 = omega arith in ap (λ (k : ℕ). 128 * limit k) e

one_byte : (more size : ℕ) (first : Bool) (b : ℕ) → b < 128 → 1 ≤ size → Bounded more size (ending first b)
unfolding ending
one_byte more size first b h s = go (eqb b 0) first
  where
    go : (z f : Bool) → Bounded more size (cond z (cond f (Value 0 1) Needless) (Value b 1))
    go true true = record { value = omega (arith, limit_low more); low = omega arith; short = omega arith; within = s }
    go true false = tt
    go false f = record { value = omega (arith, limit_low more); low = omega arith; short = omega arith; within = s }

one_more : (more size b : ℕ) (q : Number) → (more ≡ 0 → ⊥) → Bounded (more - 1) size q → Bounded more (suc size) (onto b q)
unfolding onto
one_more more size b (Value v n) z h =
    record {
      value = omega (arith, limit_more more z, h.value);
      low = omega arith;
      short = omega (arith, h.short);
      within = omega (arith, h.within);
    }
one_more more size b Cut z h = tt
one_more more size b TooLong z h = tt
one_more more size b Needless z h = tt

bounded : (more : ℕ) (first : Bool) (bs : List ℕ) → Bounded more (length bs) (groups_read more first bs)
unfolding groups_read
bounded more first [] = tt
bounded more first (b ∷ bs) = go (ltb b 128) (eqb more 0) refl refl (bounded (more - 1) false bs)
  where
    go : (x y : Bool) → ltb b 128 ≡ x → eqb more 0 ≡ y → Bounded (more - 1) (length bs) (groups_read (more - 1) false bs) →
        Bounded more (suc (length bs)) (cond x (ending first b) (cond y TooLong (onto b (groups_read (more - 1) false bs))))
    go true y e f h = one_byte more (suc (length bs)) first b (ltb-true _ _ e) (omega arith)
    go false true e f h = tt
    go false false e f h = one_more more (length bs) b _ (eqb-false _ _ f) h

value_bounded : (more size : ℕ) (q : Number) (v n : ℕ) → Bounded more size q → q ≡ Value v n → Small more size v n
value_bounded more size (Value w m) v n h e = let a : w ≡ v = cc in let b : m ≡ n = cc in rw (← a, ← b) h
value_bounded more size Cut v n h e = never (cc)
value_bounded more size TooLong v n h e = never (cc)
value_bounded more size Needless v n h e = never (cc)

pub small : (more : ℕ) (first : Bool) (bs : List ℕ) (v n : ℕ) → groups_read more first bs ≡ Value v n → Small more (length bs) v n
small more first bs v n e = value_bounded more (length bs) _ v n (bounded more first bs) e

-- the groups of a number, as they are written
pub one_group : (more x : ℕ) → x < 128 → groups more x ≡ x ∷ []
unfolding groups
one_group zero x h = refl
one_group (suc more) x h = rw (lt-ltb x 128 h)

-- a number of two groups or more has room for more than one
pub some_more : (more x : ℕ) → x < limit more → 128 ≤ x → 1 ≤ more
unfolding limit
some_more zero x h l = absurd (omega arith)
some_more (suc more) x h l = omega arith

pub more_groups_lem : (more x : ℕ) → 1 ≤ more → 128 ≤ x → groups more x ≡ (128 + x % 128) ∷ groups (more - 1) (x / 128)
unfolding groups
more_groups_lem zero x m h = absurd (omega arith)
more_groups_lem (suc more) x m h = let e : suc more - 1 ≡ more = omega arith in rw (le-ltb x 128 h, e)

pub next_limit : (more x : ℕ) → x < limit more → 1 ≤ more → x / 128 < limit (more - 1)
next_limit more x h m = omega (arith, limit_more more (λ e. omega arith))

pub length_groups : (more x : ℕ) → length (groups more x) ≤ more + 1
unfolding groups
length_groups zero x = omega arith
length_groups (suc more) x = go (ltb x 128) (length_groups more (x / 128))
  where
    go : (b : Bool) → length (groups more (x / 128)) ≤ more + 1 →
        length (cond b (x ∷ []) ((128 + x % 128) ∷ groups more (x / 128))) ≤ suc more + 1
    go true h = omega arith
    go false h = omega arith

pub group_stored : (file : List ℕ) (at x more : ℕ) → at < length file → x < 128 → Adds file at (groups more x) (at + 1) (set file at x)
group_stored file at x more l h = rw (one_group more x h) (one_set file at x l)

pub groups_stored : (file last : List ℕ) (at x more r : ℕ) → at < length file → 1 ≤ more → 128 ≤ x →
    Adds (set file at (128 + x % 128)) (at + 1) (groups (more - 1) (x / 128)) r last → Adds file at (groups more x) r last
groups_stored file last at x more r l m h a =
    rw (more_groups_lem more x m h)
    (and_then file at ((128 + x % 128) ∷ []) (omega arith) _ _ (one_set file at (128 + x % 128) l) _ r last a)

-- of the number x, written from `from` on, `left` is still to be written, with so many more groups after the next one: its groups, put
-- behind those that are written, make the whole
pub record Putting (x : ℕ) (f₀ : List ℕ) (from : ℕ) (f : List ℕ) (at left : ℕ) : Type 0 where
  pub more : ℕ
  pub high : left < limit more
  pub room : at + more < length f
  pub rest : (r : ℕ) (last : List ℕ) → Adds f at (groups more left) r last → Adds f₀ from (number_bytes x) r last

pub putting_none : (x : ℕ) (f₀ : List ℕ) (from : ℕ) → x < limit more_groups → from + more_groups < length f₀ → Putting x f₀ from f₀ from x
unfolding number_bytes
putting_none x f₀ from h l = record { more = more_groups; high = h; room = l; rest = λ r last a. a }

module _ (x : ℕ) (f₀ : List ℕ) (from : ℕ) (f : List ℕ) (at left : ℕ) (w : Putting x f₀ from f at left) where
  pub putting_more : 128 ≤ left → Putting x f₀ from (set f at (128 + left % 128)) (at + 1) (left / 128)
  putting_more h =
      let m = some_more w.more left w.high h in
      record {
        more = w.more - 1;
        high = next_limit w.more left w.high m;
        room = simp length-set (omega (arith, w.room));
        rest = λ r last a. w.rest r last (groups_stored f last at left w.more r (omega (arith, w.room)) m h a);
      }

  pub putting_done : left < 128 → Adds f₀ from (number_bytes x) (at + 1) (set f at left)
  putting_done h = w.rest (at + 1) (set f at left) (group_stored f at left w.more (omega (arith, w.room)) h)

pub length_number : (x : ℕ) → length (number_bytes x) ≤ 4
unfolding number_bytes
length_number x = length_groups 3 x

-- every value in range has at most four groups
pub few_groups : (x : ℕ) → x ≤ max_delay → x < limit more_groups
unfolding limit
few_groups x h = omega arith
