-- Each line by itself: what the code shows of it, and what it means that nothing is wrong. Assumes nothing.
use mathlib.Core.Path.{◌≡◌, refl, sym, ap, ◌∙◌}
use mathlib.Core.Bool.{Bool, true, false, not, cond, and-false}
use mathlib.Core.List.{List, [], ◌∷◌}
use mathlib.Core.Logic.{⊎_elim}
use Prim.Native.Nat.{ℕ, suc, ◌+◌, ◌-◌, ◌≤◌, ◌<◌}
use native.Mathlib.Numerals.{add-one}
use native.Mathlib.Omega.{arith}
use lib.Dec.{ltb, leb, eqb}
use Rattle.std.specs.Prelude.{Some, None}
use lib.ListN.{length, take, drop, drop_of_length-le}
use borrow.Author.Tests.{eq-eqb, ne_eqb}
use Rattle.ground.specs.Judging.{Cause, Judged, Fine, Fault, first, when}
use Rattle.ground.proofs.Answers.{refused, goes_on}
use Rattle.ground.proofs.Bools.{clash, and_parts, lt_or_ge, never}
use Rattle.ground.proofs.Beginning.{begins_with}
use Rattle.ground.proofs.Faults.{below, hit, pass, fine}
use Rattle.ground.proofs.Filling.{tail_part}
use Rattle.link.specs.Limits.{max_delay, max_rows, bad_delay, bad_rows}
use Rattle.link.specs.Refusal.{link_faults}
use Rattle.link.specs.declared.Link.{Link}
use Rattle.text.specs.Limits.{bad_line, bad_count}
use Rattle.text.specs.Bytes.{space, seek, end_word}
use Rattle.text.specs.Decimal.{max_digits, is_decimal, value}
use Rattle.text.specs.Faults.{first_part, second_part, is_pair, link_of, is_last, count_part, placed_at, pair_faults, row_faults}
use Rattle.text.specs.Faults.{last_faults}
use Rattle.text.specs.Steps.{number_says, numbers_say, pair_says, delay_says, row_says, last_says}
use Rattle.text.specs.Steps.{Rows, WrongHead, LineSaid, Last, Wrong}

no_number : is_decimal [] ≡ false
unfolding is_decimal
no_number = rw (below 1 max_digits 0 (omega arith))

-- a line without a space is no pair
no_space : (l : List ℕ) → length l ≤ seek space l → is_pair l ≡ false
unfolding is_pair second_part
no_space l h = rw (drop_of_length-le l {i = suc (seek space l)} (omega arith), no_number, and-false)

pub pair_parts : (l : List ℕ) → is_pair l ≡ true → (is_decimal (first_part l) ≡ true) × (is_decimal (second_part l) ≡ true)
    × (seek space l < length l)
unfolding is_pair
pair_parts l e =
    let w = and_parts (is_decimal (first_part l)) (is_decimal (second_part l)) e in
    (w.0, w.1, ⊎_elim (λ h. h) (λ h. clash e (no_space l h)) (lt_or_ge (seek space l) (length l)))

pub last_long : (l : List ℕ) → is_last l ≡ true → 4 ≤ length l
unfolding is_last
last_long l e = omega (arith, ap (λ (s : List ℕ). length s) (begins_with end_word l e))

-- its number, as the code takes it
count_part_lem : (l : List ℕ) → take (length l - 4) (drop 4 l) ≡ count_part l
unfolding count_part
count_part_lem l = tail_part l 4

-- which of two answers was given
chosen : {A : Type 0} (b : Bool) {x y z : A} → (x ≡ z → ⊥) → x ≡ cond b y z → (b ≡ true) × (x ≡ y)
chosen true f e = (refl, e)
chosen false f e = absurd (f e)

not_chosen : {A : Type 0} (b : Bool) {x y z : A} → (x ≡ y → ⊥) → x ≡ cond b y z → (b ≡ false) × (x ≡ z)
not_chosen true f e = absurd (f e)
not_chosen false f e = (refl, e)

-- what is read of a number
number : (bs : List ℕ) (v : ℕ) → Some v ≡ number_says bs → (is_decimal bs ≡ true) × (v ≡ value bs)
unfolding number_says
number bs v e = let w = chosen (is_decimal bs) (λ f. never cc) e in (w.0, cc w.1)

none : (bs : List ℕ) → None ≡ number_says bs → is_decimal bs ≡ false
unfolding number_says
none bs e = (not_chosen (is_decimal bs) (λ f. never cc) e).0

-- line two, with its first space at k
module _ (l : List ℕ) (k : ℕ) (e : k ≡ seek space l) where
  -- the numbers before the space and behind it, as the code takes them
  first_part_lem : take k l ≡ first_part l
  unfolding first_part
  first_part_lem = rw e

  second_part_lem : take (length l - (k + 1)) (drop (k + 1) l) ≡ second_part l
  unfolding second_part
  second_part_lem = tail_part l (k + 1) ∙ rw (add-one, e)

  pub first_not : None ≡ number_says (take k l) → None ≡ numbers_say l
  unfolding numbers_say is_pair
  first_not f = rw (none (first_part l) (rw first_part_lem at f))

  pub second_not : None ≡ number_says (take (length l - (k + 1)) (drop (k + 1) l)) → None ≡ numbers_say l
  unfolding numbers_say is_pair
  second_not f = rw (none (second_part l) (rw second_part_lem at f), and-false)

  pub both : (p s : ℕ) → Some p ≡ number_says (take k l) → Some s ≡ number_says (take (length l - (k + 1)) (drop (k + 1) l))
      → Some (record { period = p; size = s }) ≡ numbers_say l
  unfolding numbers_say is_pair link_of
  both p s f g =
      let a = number (first_part l) p (rw first_part_lem at f) in
      let b = number (second_part l) s (rw second_part_lem at g) in
      rw (a.0, b.0, a.1, b.1)

pub no_numbers : (l : List ℕ) → length l ≤ seek space l → None ≡ numbers_say l
unfolding numbers_say
no_numbers l h = rw (no_space l h)

-- the same faults at another place
abbrev pub moved : ℕ → Judged → Judged
moved at Fine = Fine
moved at (Fault n p) = Fault n at

pub placed : (at : ℕ) (cs : List Cause) → first (placed_at at cs) ≡ moved at (first cs)
unfolding first placed_at
placed at [] = refl
placed at (c ∷ cs) = go c.applies (placed at cs)
  where
    go : (b : Bool) → first (placed_at at cs) ≡ moved at (first cs)
        → cond b (Fault c.number at) (first (placed_at at cs)) ≡ moved at (cond b (Fault c.number c.place) (first cs))
    go true e = refl
    go false e = e

-- what is read of line two
pair : (l : List ℕ) (k : Link) → Some k ≡ numbers_say l → (is_pair l ≡ true) × (k ≡ link_of l)
unfolding numbers_say
pair l k e = let w = chosen (is_pair l) (λ f. never cc) e in (w.0, cc w.1)

no_pair : (l : List ℕ) → None ≡ numbers_say l → is_pair l ≡ false
unfolding numbers_say
no_pair l e = (not_chosen (is_pair l) (λ f. never cc) e).0

-- line two: its form, then the values of the link at this place
module _ (l : List ℕ) (at next : ℕ) where
  pub pair_wrong : None ≡ numbers_say l → WrongHead bad_line at ≡ pair_says l at next
  unfolding pair_faults
  pair_wrong e = refused WrongHead _ (sym (hit _ _ bad_line at (ap not (no_pair l e))))

  module _ (k : Link) (e : Some k ≡ numbers_say l) where
    pair_judged : (j : Judged) → j ≡ first (link_faults k) → first (pair_faults l at) ≡ moved at j
    unfolding pair_faults
    pair_judged j f =
        let w = pair l k e in
        sym (pass _ _ bad_line at (ap not w.0) (ap (moved at) (rw w.1 at f) ∙ sym (placed at (link_faults (link_of l)))))

    pub values_wrong : (n p : ℕ) → Fault n p ≡ first (link_faults k) → WrongHead n at ≡ pair_says l at next
    values_wrong n p f = refused WrongHead _ (pair_judged (Fault n p) f)

    pub pair_right : Fine ≡ first (link_faults k) → Rows k next ≡ pair_says l at next
    pair_right f = goes_on WrongHead (pair_judged Fine f) (rw (pair l k e).1)

-- a row behind n others: its form, its value, and how many came
module _ (n : ℕ) (l : List ℕ) (at next : ℕ) where
  pub row_form : None ≡ number_says l → Wrong bad_line at ≡ row_says n l at next
  unfolding row_faults
  row_form e = refused Wrong _ (sym (hit _ _ bad_line at (ap not (none l e))))

  -- a number is judged by its value
  pub row_value : (v : ℕ) (r : LineSaid) → Some v ≡ number_says l → r ≡ delay_says n v at next → r ≡ row_says n l at next
  unfolding row_faults
  row_value v r e f =
      let w = number l v e in
      let j : first (row_faults n l at) ≡ first (when (ltb max_delay (value l)) bad_delay at ∷ when (leb max_rows n) bad_rows at ∷ []) = sym
      (pass _ _ bad_line at (ap not w.0) refl) in
      rw j (rw w.1 at f)

-- the last line behind n rows: its form, a row before it, and its count
module _ (n : ℕ) (l : List ℕ) (at next : ℕ) where
  pub last_form : None ≡ number_says (take (length l - 4) (drop 4 l)) → Wrong bad_line at ≡ last_says n l at next
  unfolding last_faults
  last_form e = refused Wrong _ (sym (hit _ _ bad_line at (ap not (none (count_part l) (rw (count_part_lem l) at e)))))

  module _ (v : ℕ) (e : Some v ≡ number_says (take (length l - 4) (drop 4 l))) where
    last_judged : (j : Judged) → j ≡ first (when (eqb n 0) bad_rows at ∷ when (not (eqb v n)) bad_count at ∷ [])
        → first (last_faults n l at) ≡ j
    unfolding last_faults
    last_judged j f =
        let w = number (count_part l) v (rw (count_part_lem l) at e) in
        sym (pass _ _ bad_line at (ap not w.0) (rw w.1 at f))

    pub last_alone : n ≡ 0 → Wrong bad_rows at ≡ last_says n l at next
    last_alone h = refused Wrong _ (last_judged _ (hit _ _ bad_rows at (eq-eqb _ _ h)))

    module _ (h : n ≡ 0 → ⊥) where
      pub last_other : (v ≡ n → ⊥) → Wrong bad_count at ≡ last_says n l at next
      last_other m = refused Wrong _ (last_judged _ (pass _ _ bad_rows at (ne_eqb _ _ h) (hit _ _ bad_count at (ap not (ne_eqb _ _ m)))))

      pub last_right : v ≡ n → Last next ≡ last_says n l at next
      last_right m =
          goes_on Wrong (last_judged _ (pass _ _ bad_rows at (ne_eqb _ _ h) (pass _ _ bad_count at (ap not (eq-eqb _ _ m)) fine))) refl
