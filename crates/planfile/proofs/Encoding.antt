-- A number has one encoding: its bytes read as it, whatever follows, and no other bytes do; its bytes cut short are cut. Assumes nothing.
use mathlib.Core.Path.{◌≡◌, refl, sym, ap, ◌∙◌}
use mathlib.Core.Bool.{Bool, true, false, cond}
use mathlib.Core.List.{List, [], ◌∷◌, ◌++◌}
use mathlib.Core.Logic.{⊎_elim}
use Prim.Native.Nat.{ℕ, zero, suc, ◌+◌, ◌-◌, ◌*◌, ◌/◌, ◌%◌, ◌≤◌, ◌<◌}
use native.Mathlib.Omega.{arith}
use lib.Dec.{ltb, eqb}
use lib.ListN.{length, take, drop, length-drop}
use lib.Seq.{get_or-drop}
use borrow.Author.Tests.{lt-ltb, le-ltb, ne_eqb, ltb-true, ltb-false, eqb-true, eqb-false}
use Rattle.ground.proofs.Bools.{never, lt_or_ge}
use Rattle.planfile.specs.Bytes.{Bytes}
use Rattle.planfile.specs.Number.{Number, Value, Cut, TooLong, Needless}
use Rattle.planfile.specs.Number.{more_groups, limit, groups, number_bytes, ending, onto, groups_read, read_number}
use Rattle.planfile.proofs.Numbers.{one_group, more_groups_lem}

pub tail_bytes : (b : ℕ) (bs : List ℕ) → Bytes (b ∷ bs) → Bytes bs
tail_bytes b bs h = record { byte = λ i l. h.byte (suc i) (omega arith) }

pub drop_bytes : (n : ℕ) (bs : List ℕ) → Bytes bs → Bytes (drop n bs)
drop_bytes n bs h = record { byte = λ i l. rw (get_or-drop n bs i 0) (h.byte (n + i) (omega (arith, length-drop n bs))) }

-- a last byte says its number, but for a needless zero
ends_as : (first : Bool) (x : ℕ) → (first ≡ false → 1 ≤ x) → ending first x ≡ Value x 1
unfolding ending
ends_as first x h = go (eqb x 0) first refl h
  where
    go : (z f : Bool) → eqb x 0 ≡ z → (f ≡ false → 1 ≤ x) → cond z (cond f (Value 0 1) Needless) (Value x 1) ≡ Value x 1
    go true true e k = ap (λ (y : ℕ). Value y 1) (sym (eqb-true x 0 e))
    go true false e k = absurd (omega (arith, k refl, eqb-true x 0 e))
    go false f e k = refl

one_byte_reads : (more : ℕ) (first : Bool) (x : ℕ) (rest : List ℕ) → x < 128 → (first ≡ false → 1 ≤ x) →
    groups_read more first (x ∷ rest) ≡ Value x 1
unfolding groups_read
one_byte_reads more first x rest l h = rw (lt-ltb x 128 l) (ends_as first x h)

more_bytes_read : (more : ℕ) (first : Bool) (x : ℕ) (bs : List ℕ) (q : Number) → groups_read more false bs ≡ q →
    groups_read (suc more) first ((128 + x % 128) ∷ bs) ≡ onto (128 + x % 128) q
unfolding groups_read
more_bytes_read more first x bs q e =
    let s : suc more - 1 ≡ more = omega arith in
    let top : 128 ≤ 128 + x % 128 = omega arith in
    let some : suc more ≡ 0 → ⊥ = λ z. omega arith in
    rw (le-ltb (128 + x % 128) 128 top, ne_eqb (suc more) 0 some, s, e)

pub reads_written : (more : ℕ) (first : Bool) (x : ℕ) (rest : List ℕ) → x < limit more → (first ≡ false → 1 ≤ x) →
    groups_read more first (groups more x ++ rest) ≡ Value x (length (groups more x))
unfolding groups limit onto
reads_written zero first x rest l h = one_byte_reads zero first x rest l h
reads_written (suc more) first x rest l h =
    ⊎_elim low (λ k. high k (reads_written more false (x / 128) rest (omega arith) (λ e. omega arith))) (lt_or_ge x 128)
  where
    low : x < 128 → groups_read (suc more) first (groups (suc more) x ++ rest) ≡ Value x (length (groups (suc more) x))
    low k = rw (lt-ltb x 128 k) (one_byte_reads (suc more) first x rest k h)

    high : 128 ≤ x → groups_read more false (groups more (x / 128) ++ rest) ≡ Value (x / 128) (length (groups more (x / 128))) →
        groups_read (suc more) first (groups (suc more) x ++ rest) ≡ Value x (length (groups (suc more) x))
    high k deeper =
        let same : (128 + x % 128) % 128 + 128 * (x / 128) ≡ x = omega arith in
        rw (le-ltb x 128 k)
        (more_bytes_read more first x (groups more (x / 128) ++ rest) _ deeper
        ∙ ap (λ (y : ℕ). Value y (suc (length (groups more (x / 128))))) same)

-- bytes that read as v are its groups
pub record Encoded (more : ℕ) (first : Bool) (bs : List ℕ) (v n : ℕ) : Type 0 where
  pub whole : bs ≡ groups more v ++ drop n bs
  pub size : n ≡ length (groups more v)
  pub some : first ≡ false → 1 ≤ v

last_encoded : (more : ℕ) (first : Bool) (b : ℕ) (bs : List ℕ) (v n : ℕ) → b < 128 → ending first b ≡ Value v n →
    Encoded more first (b ∷ bs) v n
unfolding ending
last_encoded more first b bs v n l e = go (eqb b 0) first refl refl e
  where
    one : (f : Bool) → (f ≡ false → 1 ≤ b) → Encoded more f (b ∷ bs) b 1
    one f h = record { whole = rw (one_group more b l); size = rw (one_group more b l); some = h }

    go : (z f : Bool) → eqb b 0 ≡ z → first ≡ f → cond z (cond f (Value 0 1) Needless) (Value b 1) ≡ Value v n →
        Encoded more first (b ∷ bs) v n
    go true true z f h = let v_is : 0 ≡ v = cc in let n_is : 1 ≡ n = cc in rw (f, ← v_is, ← n_is, ← eqb-true b 0 z)
        (one true (λ q. never (cc)))
    go true false z f h = never (cc)
    go false g z f h = let v_is : b ≡ v = cc in let n_is : 1 ≡ n = cc in
        rw (← v_is, ← n_is) (one first (λ q. omega (arith, eqb-false b 0 z)))

onto_value : (b : ℕ) (q : Number) (v n : ℕ) → onto b q ≡ Value v n → (w : ℕ) × (m : ℕ) × (q ≡ Value w m) × (v ≡ b % 128 + 128 * w) ×
    (n ≡ suc m)
unfolding onto
onto_value b (Value w m) v n e = let v_is : b % 128 + 128 * w ≡ v = cc in let n_is : suc m ≡ n = cc in (w, m, refl, sym v_is, sym n_is)
onto_value b Cut v n e = never (cc)
onto_value b TooLong v n e = never (cc)
onto_value b Needless v n e = never (cc)

more_encoded : (more : ℕ) (first : Bool) (b : ℕ) (bs : List ℕ) (w m v n : ℕ) → 1 ≤ more → 128 ≤ b → b < 256 → v ≡ b % 128 + 128 * w →
    n ≡ suc m →
    Encoded (more - 1) false bs w m → Encoded more first (b ∷ bs) v n
more_encoded more first b bs w m v n h l k v_is n_is e =
    let w_low : 1 ≤ w = e.some refl in
    let high : 128 ≤ v = omega arith in
    let b_is : 128 + v % 128 ≡ b = omega arith in
    let w_is : v / 128 ≡ w = omega arith in
    let all : groups more v ≡ b ∷ groups (more - 1) w = more_groups_lem more v h high ∙ rw (b_is, w_is) in
    record {
      whole = rw (n_is, all) (ap (λ (xs : List ℕ). b ∷ xs) e.whole);
      size = rw (n_is, all) (ap suc e.size);
      some = λ _. omega arith;
    }

pub only_groups : (more : ℕ) (first : Bool) (bs : List ℕ) (v n : ℕ) → Bytes bs → groups_read more first bs ≡ Value v n →
    Encoded more first bs v n
unfolding groups_read
only_groups more first [] v n h e = never (cc)
only_groups more first (b ∷ bs) v n h e = go (ltb b 128) (eqb more 0) refl refl e
    (λ w m f. only_groups (more - 1) false bs w m (tail_bytes b bs h) f)
  where
    go : (x y : Bool) → ltb b 128 ≡ x → eqb more 0 ≡ y →
        cond x (ending first b) (cond y TooLong (onto b (groups_read (more - 1) false bs))) ≡ Value v n →
        ((w m : ℕ) → groups_read (more - 1) false bs ≡ Value w m → Encoded (more - 1) false bs w m) → Encoded more first (b ∷ bs) v n
    go true y x-is y-is f deeper = last_encoded more first b bs v n (ltb-true b 128 x-is) f
    go false true x-is y-is f deeper = never (cc)
    go false false x-is y-is f deeper =
        let o = onto_value b (groups_read (more - 1) false bs) v n f in
        more_encoded more first b bs o.0 o.1 v n (omega (arith, eqb-false more 0 y-is)) (ltb-false b 128 x-is)
        (h.byte 0 (omega arith)) o.3 o.4 (deeper o.0 o.1 o.2)

-- cut short
pub cut_groups : (more : ℕ) (first : Bool) (x m : ℕ) → m < length (groups more x) → groups_read more first (take m (groups more x)) ≡ Cut
unfolding groups groups_read onto
cut_groups zero first x zero h = refl
cut_groups zero first x (suc m) h = absurd (omega arith)
cut_groups (suc more) first x zero h = refl
cut_groups (suc more) first x (suc m) h = ⊎_elim low (λ k. high k (λ l. cut_groups more false (x / 128) m l)) (lt_or_ge x 128)
  where
    low : x < 128 → groups_read (suc more) first (take (suc m) (groups (suc more) x)) ≡ Cut
    low k = absurd (omega (arith, rw (one_group (suc more) x k) at h))

    high : 128 ≤ x → (m < length (groups more (x / 128)) → groups_read more false (take m (groups more (x / 128))) ≡ Cut) →
        groups_read (suc more) first (take (suc m) (groups (suc more) x)) ≡ Cut
    high k deeper = rw (le-ltb x 128 k)
        (more_bytes_read more first x (take m (groups more (x / 128))) Cut (deeper (omega (arith, rw (le-ltb x 128 k) at h))))

-- the same of a whole number
pub number_reads : (x : ℕ) (rest : List ℕ) → x < limit more_groups
    → read_number (number_bytes x ++ rest) ≡ Value x (length (number_bytes x))
unfolding read_number number_bytes
number_reads x rest h = reads_written more_groups true x rest h (λ e. never (cc))

pub number_only : (bs : List ℕ) (v n : ℕ) → Bytes bs → read_number bs ≡ Value v n →
    (bs ≡ number_bytes v ++ drop n bs) × (n ≡ length (number_bytes v))
unfolding read_number number_bytes
number_only bs v n h e = let w = only_groups more_groups true bs v n h e in (w.whole, w.size)

pub number_cut : (x m : ℕ) → m < length (number_bytes x) → read_number (take m (number_bytes x)) ≡ Cut
unfolding read_number number_bytes
number_cut x m h = cut_groups more_groups true x m h
