-- Numbers put one after the other. Assumes nothing.
use mathlib.Core.Path.{◌≡◌, refl, sym, ◌∙◌, ap}
use mathlib.Core.List.{List, [], ◌∷◌, ◌++◌, append_assoc}
use Prim.Native.Nat.{ℕ, ◌+◌, ◌-◌, ◌≤◌, ◌<◌}
use native.Mathlib.Omega.{arith}
use native.Mathlib.Nat.{add_assoc, add-zero}
use native.Mathlib.Numerals.{add-one}
use lib.ListN.{length, take, drop, set, length-append, length-drop, take-append-drop}
use lib.Seq.{take_at, drop_at, length-take-le, drop-drop, set_split}
use Rattle.ground.specs.Lent.{Adds}

module _ (old : List ℕ) (at : ℕ) (w : List ℕ) (fits : at + length w ≤ length old) where
  head_length : length (take at old ++ w) ≡ at + length w
  head_length = length-append (take at old) w ∙ ap (λ (n : ℕ). n + length w) (length-take-le at old (omega arith))

  module _ (r : ℕ) (new : List ℕ) (a : Adds old at w r new) where
    split : new ≡ (take at old ++ w) ++ drop (at + length w) old
    split = a.written ∙ sym (append_assoc (take at old) w (drop (at + length w) old))

    pub same_length : length new ≡ length old
    same_length =
        ap length split ∙ length-append (take at old ++ w) (drop (at + length w) old)
        ∙ rw (head_length, length-drop) (let e : at + length w + (length old - (at + length w)) ≡ length old = omega arith in e)

    front : take r new ≡ take at old ++ w
    front = rw split (take_at (take at old ++ w) (drop (at + length w) old) r (head_length ∙ sym a.end))

    rest : (n : ℕ) → drop (r + n) new ≡ drop (at + length w + n) old
    rest n =
        sym (drop-drop n r new)
        ∙ ap (drop n) (rw split (drop_at (take at old ++ w) (drop (at + length w) old) r (head_length ∙ sym a.end)))
        ∙ drop-drop n (at + length w) old

    -- w, and then v behind it
    pub and_then : (v : List ℕ) (q : ℕ) (last : List ℕ) → Adds new r v q last → Adds old at (w ++ v) q last
    and_then v q last b =
        record {
          end = b.end ∙ rw (a.end, length-append) (add_assoc at (length w) (length v));
          written =
              b.written
              ∙ rw (front, rest (length v), length-append, add_assoc, append_assoc, append_assoc);
        }

pub nothing_yet : (old : List ℕ) (at : ℕ) → Adds old at [] at old
nothing_yet old at =
    record { end = omega arith; written = sym (ap (λ (n : ℕ). take at old ++ drop n old) (add-zero at) ∙ take-append-drop at old) }

-- one number that is stored
pub one_set : (old : List ℕ) (at x : ℕ) → at < length old → Adds old at (x ∷ []) (at + 1) (set old at x)
one_set old at x h = record { end = refl; written = rw add-one (set_split old at x h) }

-- what stands at the buffer's front
pub on_front : (old w : List ℕ) (r : ℕ) (new : List ℕ) → Adds old 0 w r new → take r new ≡ w
on_front old w r new a = rw a.written (take_at w (drop (0 + length w) old) r (omega (arith, a.end)))

-- what was put lies within the buffer
pub inside : (old : List ℕ) (at : ℕ) (w : List ℕ) (r : ℕ) (new : List ℕ) → at ≤ length old → Adds old at w r new → r ≤ length new
inside old at w r new h a =
    let behind = w ++ drop (at + length w) old in
    rw (a.written, length-append (take at old) behind, length-append w (drop (at + length w) old), length-take-le at old h)
    (omega (arith, a.end))
