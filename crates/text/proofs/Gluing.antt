-- Lines and the text that they make: a text of lines without byte 10 in them has just these lines. Assumes nothing.
use mathlib.Core.Path.{◌≡◌, refl, sym, ap, ◌∙◌}
use mathlib.Core.Bool.{true}
use mathlib.Core.List.{List, [], ◌∷◌, ◌++◌, append_assoc}
use Prim.Native.Nat.{ℕ, zero, suc, ◌+◌, ◌≤◌, ◌<◌}
use native.Mathlib.Omega.{arith}
use lib.Dec.{eqb}
use lib.ListN.{length, get_or, take, drop, length-append, length-drop, drop_of_length-le}
use lib.Seq.{take-add, take-suc, drop-cons, drop-drop, take-append_seam, drop-append-add}
use borrow.Author.Tests.{ltb-true, lt-ltb, eqb-true}
use Rattle.ground.proofs.Minimum.{least_is}
use Rattle.text.specs.Bytes.{newline, seek}
use Rattle.text.specs.Lines.{next_line, begin, line_from, ended_from, line, ended}
use Rattle.text.specs.Writing.{glue}
use Rattle.text.proofs.Finding.{Without, seek_first}
use Rattle.text.proofs.Walk.{ended_low}

-- no byte of l is 10
abbrev pub Free : List ℕ → Type 0
Free l = Without newline l

abbrev pub AllFree : List (List ℕ) → Type 0
AllFree [] = Unit
AllFree (l ∷ ls) = Free l × AllFree ls

pub all_free_append : (ls ms : List (List ℕ)) → AllFree ls → AllFree ms → AllFree (ls ++ ms)
all_free_append [] ms f g = g
all_free_append (l ∷ ls) ms f g = (f.0, all_free_append ls ms f.1 g)

pub free_front : (ls ms : List (List ℕ)) → AllFree (ls ++ ms) → AllFree ls
free_front [] ms f = tt
free_front (l ∷ ls) ms f = (f.0, free_front ls ms f.1)

free_line : (ls : List (List ℕ)) → AllFree ls → (k : ℕ) → k < length ls → Free (get_or ls k [])
free_line [] f k h = absurd (omega arith)
free_line (l ∷ ls) f zero h = f.0
free_line (l ∷ ls) f (suc k) h = free_line ls f.1 k (omega arith)

-- the first line of a text, and what is behind it
module _ (x l r : List ℕ) (at : ℕ) (e : drop at x ≡ l ++ newline ∷ r) (f : Free l) where
  found_line : line_from x at ≡ l
  unfolding line_from
  found_line = rw (e, seek_first newline l r f) (take-append_seam l (newline ∷ r))

  found_end : ended_from x at ≡ true
  unfolding ended_from
  found_end = rw (e, seek_first newline l r f)
      (lt-ltb (length l) (length (l ++ newline ∷ r)) (omega (arith, length-append l (newline ∷ r))))

  found_next : drop (next_line x at) x ≡ r
  unfolding next_line
  found_next =
      let s : seek newline (drop at x) ≡ length l = rw e (seek_first newline l r f) in
      let n : at + seek newline (drop at x) + 1 ≡ at + (length l + 1) = omega arith in
      ap (λ (k : ℕ). drop k x) n ∙ sym (drop-drop (length l + 1) at x) ∙ ap (drop (length l + 1)) e ∙ drop-append-add l (newline ∷ r) 1

-- the lines of a text that is glued of lines, whatever stands behind it
module _ (ls : List (List ℕ)) (f : AllFree ls) (z : List ℕ) where
  first_glued : (k : ℕ) → k < length ls → glue (drop k ls) ++ z ≡ get_or ls k [] ++ newline ∷ (glue (drop (suc k) ls) ++ z)
  unfolding glue
  first_glued k h =
      ap (λ (ms : List (List ℕ)). glue ms ++ z) (drop-cons ls k [] h)
      ∙ append_assoc (get_or ls k []) (newline ∷ glue (drop (suc k) ls)) z

  rest_at : (k : ℕ) → k ≤ length ls → drop (begin (glue ls ++ z) k) (glue ls ++ z) ≡ glue (drop k ls) ++ z
  unfolding begin
  rest_at zero h = refl
  rest_at (suc k) h =
      found_next (glue ls ++ z) (get_or ls k []) (glue (drop (suc k) ls) ++ z) (begin (glue ls ++ z) k)
      (rest_at k (omega arith) ∙ first_glued k h) (free_line ls f k h)

  starts : (k : ℕ) → k < length ls
      → drop (begin (glue ls ++ z) k) (glue ls ++ z) ≡ get_or ls k [] ++ newline ∷ (glue (drop (suc k) ls) ++ z)
  starts k h = rest_at k (omega arith) ∙ first_glued k h

  pub line_at : (k : ℕ) → k < length ls → line (glue ls ++ z) k ≡ get_or ls k []
  line_at k h = found_line _ (get_or ls k []) _ (begin (glue ls ++ z) k) (starts k h) (free_line ls f k h)

  pub ended_at : (k : ℕ) → k < length ls → ended (glue ls ++ z) k ≡ true
  ended_at k h = found_end _ (get_or ls k []) _ (begin (glue ls ++ z) k) (starts k h) (free_line ls f k h)

  behind : (k : ℕ) → length ls ≡ k → drop (begin (glue ls ++ z) k) (glue ls ++ z) ≡ z
  unfolding glue
  behind k e = rest_at k (omega arith) ∙ ap (λ (ms : List (List ℕ)). glue ms ++ z) (drop_of_length-le ls {i = k} (omega arith))

  pub end_at : (m : ℕ) → length ls ≡ suc m → begin (glue ls ++ z) (suc m) ≡ length (glue ls)
  end_at m e =
      omega (
        arith,
        ended_low (glue ls ++ z) m (ended_at m (omega arith)),
        length-drop (begin (glue ls ++ z) (suc m)) (glue ls ++ z),
        ap length (behind (suc m) e),
        length-append (glue ls) z,
      )

-- two texts that begin the same
module _ (ls ms : List (List ℕ)) (f : AllFree ls) (g : AllFree ms) (z w : List ℕ) (e : glue ls ++ z ≡ glue ms ++ w) where
  -- have the same lines, as far as both go
  pub same_line : (k : ℕ) → k < length ls → k < length ms → get_or ls k [] ≡ get_or ms k []
  same_line k h i = sym (line_at ls f z k h) ∙ ap (λ (x : List ℕ). line x k) e ∙ line_at ms g w k i

  -- and what stands behind the first begins with the next line of the second
  pub rest_begins : (k : ℕ) → length ls ≡ k → k < length ms → (r : List ℕ) × (z ≡ get_or ms k [] ++ newline ∷ r)
  rest_begins k n h = (
    _,
    sym (behind ls f z k n) ∙ ap (λ (x : List ℕ). drop (begin x k) x) e ∙ rest_at ms g w k (omega arith) ∙ first_glued ms g w k h,
  )

-- a text and its first m lines
abbrev pub lines_to : List ℕ → ℕ → List (List ℕ)
lines_to x zero = []
lines_to x (suc m) = lines_to x m ++ line x m ∷ []

glue_more : (ls : List (List ℕ)) (l : List ℕ) → glue (ls ++ l ∷ []) ≡ glue ls ++ (l ++ newline ∷ [])
unfolding glue
glue_more [] l = refl
glue_more (m ∷ ls) l = ap (λ (r : List ℕ). m ++ newline ∷ r) (glue_more ls l) ∙ sym (append_assoc m (newline ∷ glue ls) (l ++ newline ∷ []))

module _ (x : List ℕ) where
  one_line : (k : ℕ) → ended x k ≡ true → take (begin x (suc k)) x ≡ take (begin x k) x ++ (line x k ++ newline ∷ [])
  unfolding begin next_line line_from ended_from seek
  one_line k e =
      let rest = drop (begin x k) x in
      let s = seek newline rest in
      let l : s < length rest = ltb-true s (length rest) e in
      let t : get_or rest s 0 ≡ newline = eqb-true _ _ ((least_is (λ i. eqb (get_or rest i 0) newline) (length rest)).here l) in
      let n : begin x k + s + 1 ≡ begin x k + suc s = omega arith in
      ap (λ (m : ℕ). take m x) n ∙ take-add (begin x k) (suc s) x
      ∙ ap (λ (r : List ℕ). take (begin x k) x ++ r) (take-suc rest s 0 l ∙ ap (λ (b : ℕ). take s rest ++ b ∷ []) t)

  -- a text begins with its first m lines, glued
  pub lines_glued : (m : ℕ) → ((k : ℕ) → k < m → ended x k ≡ true) → take (begin x m) x ≡ glue (lines_to x m)
  unfolding begin glue
  lines_glued zero h = refl
  lines_glued (suc m) h =
      one_line m (h m (omega arith)) ∙ ap (λ (r : List ℕ). r ++ (line x m ++ newline ∷ [])) (lines_glued m (λ k l. h k (omega arith)))
      ∙ sym (glue_more (lines_to x m) (line x m))
