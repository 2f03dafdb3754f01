-- Texts joined end to end, with anything behind them: where each begins, and that it is read as it is alone. Assumes nothing.
use mathlib.Core.Path.{◌≡◌, refl, sym, ap, ◌∙◌}
use mathlib.Core.Bool.{false}
use mathlib.Core.List.{List, [], ◌++◌, append_assoc}
use mathlib.Core.Logic.{⊎_elim}
use Prim.Native.Nat.{ℕ, zero, suc, ◌+◌, ◌-◌, ◌≤◌, ◌<◌}
use native.Mathlib.Omega.{arith}
use lib.ListN.{length, get_or, take, drop, length-append, length-drop}
use lib.Seq.{take-append-add, drop-append_seam, drop-drop, drop-cons, drop-length}
use borrow.Author.Tests.{lt-leb}
use Rattle.ground.specs.Judging.{Fine}
use Rattle.ground.proofs.Bools.{clash, lt_or_ge}
use Rattle.ground.proofs.Minimum.{least_is}
use Rattle.link.specs.Range.{GoodTable}
use Rattle.link.specs.declared.Link.{Link}
use Rattle.text.specs.Limits.{max_text}
use Rattle.text.specs.Faults.{end_of}
use Rattle.text.specs.Writing.{glue, text_of}
use Rattle.text.proofs.Texts.{ReadAs, text_behind, text_short}
use Rattle.text.proofs.Promises.{accepted_is_the_text}
use Rattle.joined.specs.Limits.{max_texts}
use Rattle.joined.specs.Texts.{text_from, begin_of, fault_from, is_left, answered}
use Rattle.joined.specs.Meaning.{joined_of, Accepted, AllAccepted}
use Rattle.joined.proofs.Steps.{fine_from}

-- a text has its first line
pub text_long : (k : Link) (ds : List ℕ) → 6 ≤ length (text_of k ds)
unfolding glue
text_long k ds = omega arith

-- the text of a table stands at the byte `at`
module _ (x : List ℕ) (at : ℕ) (rest : List ℕ) (k : Link) (ds : List ℕ) (g : GoodTable k ds) (e : drop at x ≡ text_of k ds ++ rest) where
  read_there : ReadAs (text_from x at) k ds (length (text_of k ds))
  read_there =
      let n = max_text - length (text_of k ds) in
      let l : length (text_of k ds) + n ≡ max_text = omega (arith, text_short k ds g) in
      let y : text_from x at ≡ text_of k ds ++ take n rest = ap (take max_text) e ∙ ap (λ (m : ℕ). take m (text_of k ds ++ rest)) (sym l)
      ∙ take-append-add (text_of k ds) rest n in
      rw y (text_behind k ds (take n rest) g)

  fine_there : fault_from x at ≡ Fine
  fine_there = fine_from x at read_there.fine

  next_there : drop (at + end_of (text_from x at)) x ≡ rest
  next_there =
      ap (λ (n : ℕ). drop (at + n) x) read_there.end ∙ sym (drop-drop (length (text_of k ds)) at x) ∙ ap (drop (length (text_of k ds))) e
      ∙ drop-append_seam (text_of k ds) rest

  there : at < length x
  there = omega (arith, ap length e, length-drop at x, length-append (text_of k ds) rest, text_long k ds)

-- an accepted text is the text of its table
pub record TableText (y : List ℕ) : Type 0 where
  pub link : Link
  pub delays : List ℕ
  pub good : GoodTable link delays
  pub text : y ≡ text_of link delays

pub table_text : (y : List ℕ) → Accepted y → TableText y
table_text y a =
    let w = accepted_is_the_text y a.old (record { link = a.link; rows = a.rows }) a.new a.read in
    record { link = a.link; delays = take a.rows a.new; good = w.good; text = w.text }

module _ (ts : List (List ℕ)) (z : List ℕ) (all : AllAccepted ts) where
  abbrev input : List ℕ
  input = joined_of ts ++ z

  -- text t, and what stands behind it
  behind_text : (t : ℕ) → t < length ts → (k : Link) (ds : List ℕ) → get_or ts t [] ≡ text_of k ds
      → drop (begin_of input t) input ≡ joined_of (drop t ts) ++ z
      → drop (begin_of input t) input ≡ text_of k ds ++ (joined_of (drop (suc t) ts) ++ z)
  unfolding joined_of
  behind_text t h k ds e f =
      f ∙ ap (λ (ys : List (List ℕ)). joined_of ys ++ z) (drop-cons ts t [] h)
      ∙ append_assoc (get_or ts t []) (joined_of (drop (suc t) ts)) z
      ∙ ap (λ (y : List ℕ). y ++ (joined_of (drop (suc t) ts) ++ z)) e

  -- what stands from text t on
  from_text : (t : ℕ) → t ≤ length ts → drop (begin_of input t) input ≡ joined_of (drop t ts) ++ z
  unfolding begin_of
  from_text zero h = refl
  from_text (suc t) h =
      let w = table_text (get_or ts t []) (all t h) in
      next_there input (begin_of input t) (joined_of (drop (suc t) ts) ++ z) w.link w.delays w.good
      (behind_text t h w.link w.delays w.text (from_text t (omega arith)))

  module _ (t : ℕ) (h : t < length ts) where
    -- text t is read as it is alone
    pub read_as : (k : Link) (ds : List ℕ) → GoodTable k ds → get_or ts t [] ≡ text_of k ds
        → ReadAs (text_from input (begin_of input t)) k ds (length (text_of k ds))
    read_as k ds g e =
        read_there input (begin_of input t) (joined_of (drop (suc t) ts) ++ z) k ds g (behind_text t h k ds e (from_text t (omega arith)))

    pub goes_on : is_left input t ≡ false
    unfolding is_left
    goes_on =
        let w = table_text (get_or ts t []) (all t h) in
        let b = behind_text t h w.link w.delays w.text (from_text t (omega arith)) in
        let rest = joined_of (drop (suc t) ts) ++ z in
        rw (
          lt-leb (length input) (begin_of input t) (there input (begin_of input t) rest w.link w.delays w.good b),
          fine_there input (begin_of input t) rest w.link w.delays w.good b,
        )

  -- all of them are answered, if there are no more than 32
  pub all_answered : length ts ≤ max_texts → length ts ≤ answered input
  unfolding answered
  all_answered h =
      let w = least_is (is_left input) max_texts in
      ⊎_elim (λ l. clash (w.here (omega arith)) (goes_on (answered input) l)) (λ l. l) (lt_or_ge (answered input) (length ts))

  -- and then comes what stands behind them
  pub behind_all : drop (begin_of input (length ts)) input ≡ z
  unfolding joined_of
  behind_all = from_text (length ts) (omega arith) ∙ ap (λ (ys : List (List ℕ)). joined_of ys ++ z) (drop-length ts)
