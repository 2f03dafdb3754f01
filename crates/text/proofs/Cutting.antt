-- A text of lines that loses one byte 10: the line that it stood behind, and the lines that are left. Assumes nothing.
use mathlib.Core.Path.{◌≡◌, refl, sym, ap, ◌∙◌}
use mathlib.Core.List.{List, [], ◌∷◌, ◌++◌, append_assoc}
use mathlib.Core.Logic.{◌⊎◌, inl, inr, ⊎_elim}
use Prim.Native.Nat.{ℕ, zero, suc, ◌<◌}
use native.Mathlib.Omega.{arith}
use lib.ListN.{length, get_or}
use Rattle.ground.proofs.Bools.{never}
use Rattle.text.specs.Bytes.{newline}
use Rattle.text.specs.Writing.{glue}
use Rattle.text.proofs.Finding.{without_append}
use Rattle.text.proofs.Gluing.{Free, AllFree}

-- two ways to cut one list at a byte 10, the first of them at the first one
meet : (l r a b : List ℕ) → Free l → l ++ newline ∷ r ≡ a ++ newline ∷ b → ((a ≡ l) × (b ≡ r))
    ⊎ ((c : List ℕ) × (a ≡ l ++ newline ∷ c) × (r ≡ c ++ newline ∷ b))
meet [] r [] b f e = inl (refl, cc)
meet [] r (c ∷ a) b f e = inr (a, cc, cc)
meet (d ∷ l) r [] b f e = absurd (f.0 cc)
meet (d ∷ l) r (c ∷ a) b f e =
    ⊎_elim (λ w. inl (cc, w.1)) (λ w. inr (w.0, cc, w.2)) (meet l r a b f.1 cc)

-- the line at whose end a byte 10 stands
pub record Cut (ls : List (List ℕ)) (a b : List ℕ) : Type 0 where
  pub before : List (List ℕ)
  pub here : List ℕ
  pub behind : List (List ℕ)
  pub lines : ls ≡ before ++ here ∷ behind
  pub front : a ≡ glue before ++ here
  pub rest : b ≡ glue behind

pub cut : (ls : List (List ℕ)) → AllFree ls → (a b : List ℕ) → glue ls ≡ a ++ newline ∷ b → Cut ls a b
unfolding glue
cut [] f [] b e = never cc
cut [] f (c ∷ a) b e = never cc
cut (l ∷ ls) f a b e =
    ⊎_elim (λ w. record { before = []; here = l; behind = ls; lines = refl; front = w.0; rest = w.1 })
    (λ w. let r = cut ls f.1 w.0 b w.2 in
    record {
      before = l ∷ r.before;
      here = r.here;
      behind = r.behind;
      lines = ap {B = List (List ℕ)} (λ t. l ∷ t) r.lines;
      front = w.1 ∙ ap (λ (t : List ℕ). l ++ newline ∷ t) r.front ∙ sym (append_assoc l (newline ∷ glue r.before) r.here);
      rest = r.rest;
    })
    (meet l (glue ls) a b f.0 e)

-- two lines become one
module _ (l m : List ℕ) (qs : List (List ℕ)) where
  pub joined : (ps : List (List ℕ)) → glue (ps ++ (l ++ m) ∷ qs) ≡ (glue ps ++ l) ++ glue (m ∷ qs)
  unfolding glue
  joined [] = append_assoc l m (newline ∷ glue qs)
  joined (p ∷ ps) =
      ap (λ (t : List ℕ). p ++ newline ∷ t) (joined ps)
      ∙ sym (append_assoc p (newline ∷ (glue ps ++ l)) (glue (m ∷ qs)))
      ∙ ap (λ (t : List ℕ). t ++ glue (m ∷ qs)) (sym (append_assoc p (newline ∷ glue ps) l))

  pub joined_free : (ps : List (List ℕ)) → AllFree (ps ++ l ∷ m ∷ qs) → AllFree (ps ++ (l ++ m) ∷ qs)
  joined_free [] f = (without_append newline l m f.0 f.1.0, f.1.1)
  joined_free (p ∷ ps) f = (f.0, joined_free ps f.1)

  -- behind the first of them each line was one place further on
  pub joined_behind : (ps : List (List ℕ)) (j : ℕ) → length ps < j
      → get_or (ps ++ (l ++ m) ∷ qs) j [] ≡ get_or (ps ++ l ∷ m ∷ qs) (suc j) []
  joined_behind ps zero h = absurd (omega arith)
  joined_behind [] (suc j) h = refl
  joined_behind (p ∷ ps) (suc j) h = joined_behind ps j (omega arith)
