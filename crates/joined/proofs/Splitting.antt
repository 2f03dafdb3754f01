-- The texts that a run answers are accepted texts, which stand joined in front of the input. Assumes nothing.
use mathlib.Core.Path.{◌≡◌, refl, sym, ap, ◌∙◌}
use mathlib.Core.Bool.{false}
use mathlib.Core.List.{List, [], ◌∷◌, ◌++◌, append_assoc, append-nil}
use mathlib.Core.Logic.{⊎_elim}
use Prim.Native.Nat.{ℕ, zero, suc, ◌≤◌, ◌<◌}
use native.Mathlib.Omega.{arith}
use lib.ListN.{length, drop, take-append-drop, length-append, length-take, get_or-append}
use lib.Seq.{take-take, drop-drop, get_or_at}
use Rattle.ground.proofs.Bools.{lt_or_ge}
use Rattle.link.specs.Range.{GoodTable}
use Rattle.link.specs.declared.Link.{Link}
use Rattle.text.specs.Limits.{max_text}
use Rattle.text.specs.Faults.{end_of, rows_of}
use Rattle.text.specs.Answer.{said as read_said, table_link, delays_of}
use Rattle.text.specs.Writing.{text_of}
use Rattle.text.proofs.Texts.{text_accepted}
use Rattle.text.proofs.Taken.{begins_with_its_text}
use Rattle.joined.specs.Texts.{text_from, begin_of, is_left}
use Rattle.joined.specs.Meaning.{joined_of, Accepted, AllAccepted}
use Rattle.joined.proofs.Filled.{answered_fine}

-- the text of a good table is accepted
good_accepted : (k : Link) (ds : List ℕ) → GoodTable k ds → Accepted (text_of k ds)
unfolding read_said
good_accepted k ds g = record { link = k; rows = length ds; old = ds; new = _; read = text_accepted k ds ds g (omega arith) }

-- one more text behind joined ones
joined_more : (ts : List (List ℕ)) (y : List ℕ) → joined_of (ts ++ y ∷ []) ≡ joined_of ts ++ y
unfolding joined_of
joined_more [] y = append-nil y
joined_more (t ∷ ts) y = ap (λ (l : List ℕ). t ++ l) (joined_more ts y) ∙ sym (append_assoc t (joined_of ts) y)

all_more : (ts : List (List ℕ)) (y : List ℕ) → AllAccepted ts → Accepted y → AllAccepted (ts ++ y ∷ [])
all_more ts y all a t h =
    ⊎_elim (λ l. rw (get_or-append ts (y ∷ []) [] t l) (all t l))
    (λ l. let z : t ≡ length ts = omega (arith, length-append ts (y ∷ [])) in rw (get_or_at ts y [] [] t (sym z)) a)
    (lt_or_ge t (length ts))

-- t accepted texts, and what stands behind them
pub record Front (x : List ℕ) (t : ℕ) : Type 0 where
  pub texts : List (List ℕ)
  pub all : AllAccepted texts
  pub count : length texts ≡ t
  pub split : x ≡ joined_of texts ++ drop (begin_of x t) x

module _ (x : List ℕ) where
  -- the next one is the text of its table
  next_text : (t : ℕ) → is_left x t ≡ false
      → (y : List ℕ) × Accepted y × (drop (begin_of x t) x ≡ y ++ drop (begin_of x (suc t)) x)
  unfolding begin_of
  next_text t e =
      let rest = drop (begin_of x t) x in
      let v = text_from x (begin_of x t) in
      let b = begins_with_its_text v (answered_fine x t e) in
      let low : end_of v ≤ max_text = omega (arith, b.inside, length-take max_text rest) in (
        text_of (table_link v) (delays_of v (rows_of v)),
        good_accepted (table_link v) (delays_of v (rows_of v)) b.good,
        sym (take-append-drop (end_of v) rest)
            ∙ ap (λ (l : List ℕ). l ++ drop (end_of v) rest) (sym (take-take (end_of v) max_text rest low) ∙ b.text)
            ∙ ap (λ (l : List ℕ). text_of (table_link v) (delays_of v (rows_of v)) ++ l) (drop-drop (end_of v) (begin_of x t) x),
      )

  pub front : (t : ℕ) → ((s : ℕ) → s < t → is_left x s ≡ false) → Front x t
  unfolding joined_of begin_of
  front zero going = record { texts = []; all = λ t h. absurd (omega arith); count = refl; split = refl }
  front (suc t) going =
      let w = front t (λ s h. going s (omega arith)) in
      let n = next_text t (going t (omega arith)) in
      record {
        texts = w.texts ++ n.0 ∷ [];
        all = all_more w.texts n.0 w.all n.1;
        count = omega (arith, length-append w.texts (n.0 ∷ []), w.count);
        split = w.split ∙ ap (λ (l : List ℕ). joined_of w.texts ++ l) n.2
            ∙ sym (append_assoc (joined_of w.texts) n.0 _)
            ∙ ap (λ (l : List ℕ). l ++ drop (begin_of x (suc t)) x) (sym (joined_more w.texts n.0));
      }
