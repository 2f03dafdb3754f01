-- A number is cut, too long or has a needless group exactly where its bytes say so, in the words of request One. Assumes nothing.
use mathlib.Core.Path.{◌≡◌, refl, sym}
use mathlib.Core.Bool.{Bool, true, false, cond}
use mathlib.Core.List.{List, [], ◌∷◌}
use Prim.Native.Nat.{ℕ, zero, suc, ◌-◌, ◌≤◌, ◌<◌}
use native.Mathlib.Omega.{arith}
use lib.Dec.{ltb, eqb}
use lib.ListN.{length, get_or}
use borrow.Author.Tests.{le-ltb, eq-eqb, ne_eqb, ltb-false, eqb-true, eqb-false}
use Rattle.ground.proofs.Bools.{never}
use Rattle.planfile.specs.Number.{Number, Value, Cut, TooLong, Needless, formed}
use Rattle.planfile.specs.Number.{more_groups, ending, onto, groups_read, read_number, form_fault}
use Rattle.planfile.specs.FormFault.{TopBits, NumberFault, cut, too_long, needless}
use Rattle.planfile.specs.declared.Malformed.{Malformed}
use Rattle.planfile.specs.declared.Malformed.TheVariants.{Cut as IsCut, TooLong as IsTooLong, Needless as IsNeedless}

-- what a reading says of the bytes, where so many groups more may follow the first
abbrev Form : ℕ → Bool → List ℕ → Number → Type 0
Form more first bs (Value v n) = Unit
Form more first bs Cut = (length bs ≤ more) × TopBits (length bs) bs
Form more first bs TooLong = (more < length bs) × TopBits (suc more) bs
Form more first bs Needless = (m : ℕ) × (first ≡ true → 1 ≤ m) × (m ≤ more) × (m < length bs) × TopBits m bs × (get_or bs m 0 ≡ 0)

one_top_bit_more : (m b : ℕ) (bs : List ℕ) → 128 ≤ b → TopBits m bs → TopBits (suc m) (b ∷ bs)
one_top_bit_more m b bs h t zero l = h
one_top_bit_more m b bs h t (suc i) l = t i (omega arith)

later_top_bits : (m b : ℕ) (bs : List ℕ) → TopBits (suc m) (b ∷ bs) → TopBits m bs
later_top_bits m b bs t i l = t (suc i) (omega arith)

last_form : (more : ℕ) (first : Bool) (b : ℕ) (bs : List ℕ) → Form more first (b ∷ bs) (ending first b)
unfolding ending
last_form more first b bs = go (eqb b 0) first refl
  where
    go : (z f : Bool) → eqb b 0 ≡ z → Form more f (b ∷ bs) (cond z (cond f (Value 0 1) Needless) (Value b 1))
    go true true e = tt
    go true false e = (0, (λ q. never (cc)), omega arith, omega arith, (λ i l. absurd (omega arith)), eqb-true b 0 e)
    go false f e = tt

next_form : (more : ℕ) (first : Bool) (b : ℕ) (bs : List ℕ) (q : Number) → 128 ≤ b → (more ≡ 0 → ⊥) → Form (more - 1) false bs q →
    Form more first (b ∷ bs) (onto b q)
unfolding onto
next_form more first b bs (Value v n) h z w = tt
next_form more first b bs Cut h z w = (omega (arith, w.0), one_top_bit_more (length bs) b bs h w.1)
next_form more first b bs TooLong h z w =
    let all : suc (more - 1) ≡ more = omega arith in
    (omega (arith, w.0), one_top_bit_more more b bs h (rw all at w.1))
next_form more first b bs Needless h z w =
    (suc w.0, (λ _. omega arith), omega (arith, w.2), omega (arith, w.3), one_top_bit_more w.0 b bs h w.4, w.5)

form : (more : ℕ) (first : Bool) (bs : List ℕ) → Form more first bs (groups_read more first bs)
unfolding groups_read
form more first [] = (omega arith, λ i l. absurd (omega arith))
form more first (b ∷ bs) = go (ltb b 128) (eqb more 0) refl refl (form (more - 1) false bs)
  where
    go : (x y : Bool) → ltb b 128 ≡ x → eqb more 0 ≡ y → Form (more - 1) false bs (groups_read (more - 1) false bs) →
        Form more first (b ∷ bs) (cond x (ending first b) (cond y TooLong (onto b (groups_read (more - 1) false bs))))
    go true y e f w = last_form more first b bs
    go false true e f w = (
      omega (arith, eqb-true more 0 f),
      rw (eqb-true more 0 f) (one_top_bit_more 0 b bs (ltb-false b 128 e) (λ i l. absurd (omega arith))),
    )
    go false false e f w = next_form more first b bs _ (ltb-false b 128 e) (eqb-false more 0 f) w

-- and back: bytes of which one of the three is said are read so
passes_on : (more : ℕ) (first : Bool) (b : ℕ) (bs : List ℕ) (q : Number) → 128 ≤ b → (more ≡ 0 → ⊥) → onto b q ≡ q →
    groups_read (more - 1) false bs ≡ q → groups_read more first (b ∷ bs) ≡ q
unfolding groups_read
passes_on more first b bs q h z o e = rw (le-ltb b 128 h, ne_eqb more 0 z, e) o

fourth_top_bit : (more : ℕ) (first : Bool) (b : ℕ) (bs : List ℕ) → 128 ≤ b → more ≡ 0 → groups_read more first (b ∷ bs) ≡ TooLong
unfolding groups_read
fourth_top_bit more first b bs h z = rw (le-ltb b 128 h, eq-eqb more 0 z)

zero_byte : (more : ℕ) (first : Bool) (b : ℕ) (bs : List ℕ) → b ≡ 0 → (first ≡ true → 1 ≤ 0) → groups_read more first (b ∷ bs) ≡ Needless
unfolding groups_read ending
zero_byte more true b bs e f = absurd (omega (arith, f refl))
zero_byte more false b bs e f = rw e

read_cut : (more : ℕ) (first : Bool) (bs : List ℕ) → length bs ≤ more → TopBits (length bs) bs → groups_read more first bs ≡ Cut
unfolding groups_read onto
read_cut more first [] h t = refl
read_cut more first (b ∷ bs) h t =
    passes_on more first b bs Cut (t 0 (omega arith)) (λ z. omega arith) refl
    (read_cut (more - 1) false bs (omega arith) (later_top_bits (length bs) b bs t))

read_too_long : (more : ℕ) (first : Bool) (bs : List ℕ) → more < length bs → TopBits (suc more) bs → groups_read more first bs ≡ TooLong
unfolding onto
read_too_long more first [] h t = absurd (omega arith)
read_too_long zero first (b ∷ bs) h t = fourth_top_bit zero first b bs (t 0 (omega arith)) refl
read_too_long (suc more) first (b ∷ bs) h t =
    let all : suc more - 1 ≡ more = omega arith in
    passes_on (suc more) first b bs TooLong (t 0 (omega arith)) (λ z. omega arith) refl
    (rw all (read_too_long more false bs (omega arith) (later_top_bits (suc more) b bs t)))

read_needless : (more : ℕ) (first : Bool) (bs : List ℕ) (m : ℕ) → (first ≡ true → 1 ≤ m) → m ≤ more → m < length bs → TopBits m bs →
    get_or bs m 0 ≡ 0 → groups_read more first bs ≡ Needless
unfolding onto
read_needless more first [] m f h l t e = absurd (omega arith)
read_needless more first (b ∷ bs) zero f h l t e = zero_byte more first b bs e f
read_needless more first (b ∷ bs) (suc m) f h l t e =
    passes_on more first b bs Needless (t 0 (omega arith)) (λ z. omega arith) refl
    (read_needless (more - 1) false bs m (λ q. never (cc)) (omega arith) (omega arith) (later_top_bits m b bs t) e)

-- a fault of form, and the reading that it is
pub record Faulty (bs : List ℕ) (n : ℕ) : Type 0 where
  pub said : Malformed
  pub reads : formed said ≡ read_number bs
  pub refusal : n ≡ form_fault (formed said)

pub number_faulty : (bs : List ℕ) (n : ℕ) → NumberFault bs n → Faulty bs n
unfolding read_number form_fault
number_faulty bs n (cut e h t) = record { said = IsCut; reads = sym (read_cut more_groups true bs h t); refusal = e }
number_faulty bs n (too_long e h t) =
    record { said = IsTooLong; reads = sym (read_too_long more_groups true bs h t); refusal = e }
number_faulty bs n (needless e m low h l t z) =
    record { said = IsNeedless; reads = sym (read_needless more_groups true bs m (λ _. low) h l t z); refusal = e }

pub faulty_number : (bs : List ℕ) (m : Malformed) → read_number bs ≡ formed m → NumberFault bs (form_fault (formed m))
unfolding read_number form_fault
faulty_number bs m e = go m (rw e at (form more_groups true bs))
  where
    go : (m : Malformed) → Form more_groups true bs (formed m) → NumberFault bs (form_fault (formed m))
    go IsCut w = cut refl w.0 w.1
    go IsTooLong w = too_long refl w.0 w.1
    go IsNeedless w = needless refl w.0 (w.1 refl) w.2 w.3 w.4 w.5
