-- How code shows which fault of a list is the first. Assumes nothing.
use mathlib.Core.Path.{◌≡◌, refl, sym, ◌∙◌, ap}
use mathlib.Core.Bool.{Bool, true, false, ◌&&◌, cond, or-true}
use mathlib.Core.List.{List, [], ◌∷◌, ◌++◌}
use Prim.Native.Nat.{ℕ, ◌≤◌, ◌<◌}
use lib.Dec.{ltb}
use borrow.Author.Tests.{lt-ltb, le-ltb, ltb-false}
use native.Mathlib.Omega.{arith}
use lib.ListN.{length, get_or}
use Rattle.std.specs.Prelude.{Some, None, nat_lt}
use Rattle.std.specs.List.{position, position_or_len}
use Rattle.std.proofs.lemmas.List.Quantifiers.{position-Some}
use Rattle.std.proofs.lemmas.List.Sums.{fails_before_first}
use Rattle.ground.specs.Least.{least}
use Rattle.ground.specs.Judging.{Cause, when, at_row, first, outside, and_then}
use Rattle.ground.proofs.Minimum.{least_at}
use Rattle.ground.proofs.Bools.{never, and_parts, or_none}
use Rattle.ground.specs.Judging.{Judged}
use Rattle.ground.specs.Judging.{Fine, Fault}

-- how code shows it, line by line: this one applies; this one does not, and the rest says r
pub hit : (cs : List Cause) (b : Bool) (n p : ℕ) → b ≡ true → Fault n p ≡ first (when b n p ∷ cs)
unfolding first
hit cs b n p e = rw e

pub pass : (cs : List Cause) {r : Judged} (b : Bool) (n p : ℕ) → b ≡ false → r ≡ first cs → r ≡ first (when b n p ∷ cs)
unfolding first
pass cs b n p e h = rw e h

pub hit_row : (cs : List Cause) (q : ℕ → Bool) (n number k : ℕ) → k ≡ least q n → k < n → Fault number k ≡ first (at_row q n number ∷ cs)
unfolding first
hit_row cs q n number k e h = rw (← e, lt-ltb k n h)

pub pass_row : (cs : List Cause) {r : Judged} (q : ℕ → Bool) (n number k : ℕ) → k ≡ least q n → n ≤ k → r ≡ first cs
    → r ≡ first (at_row q n number ∷ cs)
unfolding first
pass_row cs q n number k e h f = rw (← e, le-ltb k n h) f

-- the same where the code looked for the row by an iterator's `position`
pub hit_found : (cs : List Cause) (p : ℕ → Bool) (xs : List ℕ) (number k : ℕ) → position p xs ≡ Some k
    → Fault number k ≡ first (at_row (λ i. p (get_or xs i 0)) (length xs) number ∷ cs)
hit_found cs p xs number k e =
    let f = position-Some p xs k 0 e in
    hit_row cs _ _ number k (sym (least_at (λ i. p (get_or xs i 0)) (length xs) k (omega (arith, f.0)) f.2 (λ _. f.1))) f.0

pub pass_found : (cs : List Cause) {r : Judged} (p : ℕ → Bool) (xs : List ℕ) (number : ℕ) → position p xs ≡ None → r ≡ first cs
    → r ≡ first (at_row (λ i. p (get_or xs i 0)) (length xs) number ∷ cs)
pass_found cs p xs number e f =
    let none : length xs ≤ position_or_len p xs = at (nat_lt (position_or_len p xs) (length xs)) refl e in
    pass_row cs _ _ number (length xs)
    (sym (least_at (λ i. p (get_or xs i 0)) (length xs) (length xs) (omega arith)
    (λ k l. fails_before_first p xs k 0 (omega arith)) (λ l. absurd (omega arith))))
    (omega arith) f
  where
    at : (b : Bool) → nat_lt (position_or_len p xs) (length xs) ≡ b → cond b (Some (position_or_len p xs)) None ≡ None
        → length xs ≤ position_or_len p xs
    at true s h = never (cc)
    at false s h = ltb-false _ _ s

-- and what it means that none applies
pub passed : (b : Bool) (n p : ℕ) (cs : List Cause) → first (when b n p ∷ cs) ≡ Fine → (b ≡ false) × (first cs ≡ Fine)
unfolding first
passed true n p cs e = never (cc)
passed false n p cs e = (refl, e)

pub fine : Fine ≡ first []
unfolding first
fine = refl

pub below : (lo hi x : ℕ) → x < lo → outside lo hi x ≡ true
unfolding outside
below lo hi x h = rw (lt-ltb x lo h)

pub above : (lo hi x : ℕ) → hi < x → outside lo hi x ≡ true
unfolding outside
above lo hi x h = rw (lt-ltb hi x h, or-true)

pub inside : (lo hi x : ℕ) → lo ≤ x → x ≤ hi → outside lo hi x ≡ false
unfolding outside
inside lo hi x h k = rw (le-ltb x lo h, le-ltb hi x k)

pub within : (lo hi x : ℕ) → outside lo hi x ≡ false → (lo ≤ x) × (x ≤ hi)
unfolding outside
within lo hi x e = let w = or_none (ltb x lo) (ltb hi x) e in (ltb-false _ _ w.0, ltb-false _ _ w.1)

abbrev pub or_else : Judged → Judged → Judged
or_else Fine o = o
or_else (Fault n p) o = Fault n p

split : (j r : Judged) → or_else j r ≡ Fine → (j ≡ Fine) × (r ≡ Fine)
split Fine r e = (refl, e)
split (Fault n p) r e = never (cc)

pub first_append : (xs ys : List Cause) → first (xs ++ ys) ≡ or_else (first xs) (first ys)
unfolding first
first_append [] ys = refl
first_append (x ∷ xs) ys = go x.applies (first_append xs ys)
  where
    go : (b : Bool) → first (xs ++ ys) ≡ or_else (first xs) (first ys)
        → cond b (Fault x.number x.place) (first (xs ++ ys)) ≡ or_else (cond b (Fault x.number x.place) (first xs)) (first ys)
    go true e = refl
    go false e = e

pub front_hit : (xs ys : List Cause) (n p : ℕ) → first xs ≡ Fault n p → Fault n p ≡ first (and_then xs ys)
unfolding and_then
front_hit xs ys n p e = sym (first_append xs ys ∙ ap (λ (j : Judged). or_else j (first ys)) e)

pub front_pass : (xs ys : List Cause) (r : Judged) → first xs ≡ Fine → r ≡ first ys → r ≡ first (and_then xs ys)
unfolding and_then
front_pass xs ys r e f = f ∙ sym (first_append xs ys ∙ ap (λ (j : Judged). or_else j (first ys)) e)

pub front_fine : (xs ys : List Cause) → first (and_then xs ys) ≡ Fine → (first xs ≡ Fine) × (first ys ≡ Fine)
unfolding and_then
front_fine xs ys e = split (first xs) (first ys) (sym (first_append xs ys) ∙ e)

-- which numbers a list can give
unfoldable pub all_numbers : (ℕ → Bool) → List Cause → Bool
all_numbers q [] = true
all_numbers q (c ∷ cs) = q c.number && all_numbers q cs

pub number_of : (q : ℕ → Bool) (cs : List Cause) (n p : ℕ) → all_numbers q cs ≡ true → first cs ≡ Fault n p → q n ≡ true
unfolding first all_numbers
number_of q [] n p a e = never (cc)
number_of q (c ∷ cs) n p a e = go c.applies e (number_of q cs n p (and_parts (q c.number) (all_numbers q cs) a).1)
  where
    go : (b : Bool) → cond b (Fault c.number c.place) (first cs) ≡ Fault n p → (first cs ≡ Fault n p → q n ≡ true) → q n ≡ true
    go true f rest = let same : c.number ≡ n = cc in rw (← same) (and_parts (q c.number) (all_numbers q cs) a).0
    go false f rest = rest f
