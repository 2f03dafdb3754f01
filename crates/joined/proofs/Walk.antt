-- Text after text: where the code stands before text t, and what it may answer there. Assumes nothing.
use mathlib.Core.Path.{◌≡◌, refl, sym, ap, ◌∙◌}
use mathlib.Core.Bool.{true, false}
use mathlib.Core.List.{List, ◌++◌}
use mathlib.Core.Logic.{⊎_elim}
use Prim.Native.Nat.{ℕ, suc, ◌+◌, ◌-◌, ◌*◌, ◌≤◌, ◌<◌}
use native.Mathlib.Numerals.{add-one}
use native.Mathlib.Omega.{arith}
use lib.Dec.{leb}
use lib.ListN.{length, take, drop, take-append-drop, length-drop, length-take}
use borrow.Rule.Slice.PartMut.{put_mid, same_len_mid}
use borrow.Author.Tests.{le-leb, lt-leb}
use Rattle.ground.specs.Protocol.{Outcome, gives, keeping}
use Rattle.ground.specs.Judging.{Judged, Fine, Fault}
use Rattle.ground.proofs.Answers.{Told, stopped, through, told, let_through}
use Rattle.ground.proofs.Bools.{lt_or_ge, never}
use Rattle.ground.proofs.Filling.{tail_part}
use Rattle.ground.proofs.Minimum.{least_at}
use Rattle.link.specs.Limits.{max_rows}
use Rattle.text.specs.Limits.{max_text}
use Rattle.text.specs.Faults.{end_of}
use Rattle.text.proofs.Taken.{begins_with_its_text}
use Rattle.joined.specs.Limits.{max_texts, answer_size, too_many_texts}
use Rattle.joined.specs.Texts.{text_from, begin_of, fault_from, is_fault, is_left, answered, stop_at}
use Rattle.joined.specs.Answer.{all_of, stopping, Lists, lists, in_front, at_text, lists_to, running}
use Rattle.joined.specs.Steps.{Step, Next, Wrong, step_gives}
use Rattle.joined.proofs.Lent.{tail_back}
use Rattle.joined.proofs.Steps.{fine_back}

-- the first t texts are answered, in the lists m that were l, and text t begins at the byte `at`
pub record Walked (x : List ℕ) (budget : ℕ) (l : Lists) (at t : ℕ) (m : Lists) : Type 0 where
  pub place : at ≡ begin_of x t
  pub inside : at ≤ length x
  pub before : (s : ℕ) → s < t → is_left x s ≡ false
  pub few : t ≤ max_texts
  pub so_far : m ≡ lists_to x budget t l
  pub answers_kept : length m.answers ≡ length l.answers
  pub offsets_kept : length m.offsets ≡ length l.offsets
  pub answers_room : answer_size * max_texts ≤ length l.answers
  pub offsets_room : max_rows * max_texts ≤ length l.offsets

pub start : (x : List ℕ) (budget : ℕ) (l : Lists) → answer_size * max_texts ≤ length l.answers → max_rows * max_texts ≤ length l.offsets
    → Walked x budget l 0 0 l
unfolding begin_of lists_to
start x budget l a o =
    record {
      place = refl;
      inside = omega arith;
      before = λ s h. absurd (omega arith);
      few = omega arith;
      so_far = refl;
      answers_kept = refl;
      offsets_kept = refl;
      answers_room = a;
      offsets_room = o;
    }

-- the lists from text t's places on, and with those places put back
abbrev from_text : ℕ → Lists → Lists
from_text t m = lists (drop (answer_size * t) m.answers) (drop (max_rows * t) m.offsets)

abbrev put_back : ℕ → Lists → Lists → Lists
put_back t m rest = lists (take (answer_size * t) m.answers ++ rest.answers) (take (max_rows * t) m.offsets ++ rest.offsets)

-- the same, as the code lends and gets them back
abbrev pub lent_from : ℕ → Lists → Lists
lent_from t m =
    lists (take (length m.answers - answer_size * t) (drop (answer_size * t) m.answers))
    (take (length m.offsets - max_rows * t) (drop (max_rows * t) m.offsets))

abbrev pub back_from : ℕ → Lists → Lists → Lists
back_from t m rest =
    lists (put_mid (answer_size * t) (length m.answers - answer_size * t) m.answers rest.answers)
    (put_mid (max_rows * t) (length m.offsets - max_rows * t) m.offsets rest.offsets)

lent_is : (t : ℕ) (m : Lists) → lent_from t m ≡ from_text t m
lent_is t m = rw (tail_part m.answers (answer_size * t), tail_part m.offsets (max_rows * t))

back_is : (t : ℕ) (m rest : Lists) → answer_size * t ≤ length m.answers → max_rows * t ≤ length m.offsets
    → back_from t m rest ≡ put_back t m rest
back_is t m rest a o =
    rw (tail_back (answer_size * t) m.answers rest.answers a, tail_back (max_rows * t) m.offsets rest.offsets o)

unchanged : (t : ℕ) (m : Lists) → put_back t m (from_text t m) ≡ m
unchanged t m = rw (take-append-drop (answer_size * t) m.answers, take-append-drop (max_rows * t) m.offsets)

-- what one text's answer tells
abbrev fault_of : Step → Judged
fault_of (Next at) = Fine
fault_of (Wrong n p) = Fault n p

abbrev next_of : Step → ℕ
next_of (Next at) = at
next_of (Wrong n p) = 0

module _ (x : List ℕ) (at budget : ℕ) (old rest : Lists) where
  told_fault : (n p : ℕ) → gives (Wrong n p) rest ≡ step_gives x at budget old → (fault_from x at ≡ Fault n p) × (rest ≡ old)
  unfolding step_gives
  told_fault n p e = go (told (keeping Wrong old) (fault_from x at) e)
    where
      go : Told (keeping Wrong old) (fault_from x at) (gives (Next (at + end_of (text_from x at))) (in_front (text_from x at) budget old))
          (gives (Wrong n p) rest) → (fault_from x at ≡ Fault n p) × (rest ≡ old)
      go (stopped m q f g) = (
        f ∙ sym (ap (λ (o : Outcome Step Lists). fault_of o.says) g),
        ap (λ (o : Outcome Step Lists). o.leaves) g,
      )
      go (through f g) = never (cc (ap (λ (o : Outcome Step Lists). is_fault (fault_of o.says)) g))

  told_next : (to : ℕ) → gives (Next to) rest ≡ step_gives x at budget old
      → (fault_from x at ≡ Fine) × (to ≡ at + end_of (text_from x at)) × (rest ≡ in_front (text_from x at) budget old)
  unfolding step_gives
  told_next to e =
      let w = let_through (keeping Wrong old) (fault_from x at)
      (λ n p f. never (cc (ap (λ (o : Outcome Step Lists). is_fault (fault_of o.says)) f))) e in
      (w.0, ap (λ (o : Outcome Step Lists). next_of o.says) w.1, ap (λ (o : Outcome Step Lists). o.leaves) w.1)

answer_put : (t : ℕ) (y : List ℕ) (budget : ℕ) (m rest : Lists) → rest ≡ in_front y budget (from_text t m)
    → put_back t m rest ≡ at_text t (in_front y budget) m
unfolding at_text
answer_put t y budget m rest e = rw e

one_more : (x : List ℕ) (budget : ℕ) (l : Lists) (at t : ℕ) (m rest : Lists) → at ≡ begin_of x t → m ≡ lists_to x budget t l
    → rest ≡ in_front (text_from x at) budget (from_text t m) → put_back t m rest ≡ lists_to x budget (suc t) l
unfolding lists_to
one_more x budget l at t m rest e f g =
    answer_put t (text_from x at) budget m rest g ∙ ap (λ (n : ℕ). at_text t (in_front (text_from x n) budget) m) e
    ∙ ap (at_text t (in_front (text_from x (begin_of x t)) budget)) f

module _ (x : List ℕ) (budget : ℕ) (l : Lists) (at t : ℕ) (m : Lists) (w : Walked x budget l at t m) where
  stops_here : (t < max_texts → is_left x t ≡ true) → answered x ≡ t
  unfolding answered
  stops_here h = least_at (is_left x) max_texts t w.few w.before h

  -- no byte is left
  pub all_done : length x ≤ at → gives (all_of t) m ≡ running x budget l
  unfolding running stop_at is_left
  all_done h =
      let e = le-leb (length x) (begin_of x t) (omega (arith, w.place)) in
      rw (stops_here (λ _. rw e), e, w.so_far)

  -- a byte is left behind 32 texts
  pub too_many : max_texts ≤ t → at < length x → gives (stopping t too_many_texts at) m ≡ running x budget l
  unfolding running stop_at
  too_many g h =
      let e = lt-leb (length x) (begin_of x t) (omega (arith, w.place)) in
      rw (stops_here (λ k. absurd (omega arith)), e, le-leb max_texts t g, w.so_far, w.place)

  module _ (g : t < max_texts) where
    -- text t has its places in both lists
    answer_room : answer_size * t + answer_size ≤ length m.answers
    answer_room = omega (arith, w.answers_kept, w.answers_room)

    plan_room : max_rows * t + max_rows ≤ length m.offsets
    plan_room = omega (arith, w.offsets_kept, w.offsets_room)

    module _ (rest : Lists) where
      given_back : back_from t m rest ≡ put_back t m rest
      given_back = back_is t m rest (omega (arith, answer_room)) (omega (arith, plan_room))

      pub answers_back : length rest.answers ≡ length (lent_from t m).answers → length (back_from t m rest).answers ≡ length l.answers
      answers_back e =
          same_len_mid (answer_size * t) (length m.answers - answer_size * t) m.answers rest.answers e ∙ w.answers_kept

      pub offsets_back : length rest.offsets ≡ length (lent_from t m).offsets → length (back_from t m rest).offsets ≡ length l.offsets
      offsets_back e = same_len_mid (max_rows * t) (length m.offsets - max_rows * t) m.offsets rest.offsets e ∙ w.offsets_kept

      module _ (h : at < length x) where
        there : leb (length x) (begin_of x t) ≡ false
        there = lt-leb (length x) (begin_of x t) (omega (arith, w.place))

        -- text t has a fault
        pub fault_here : (n p : ℕ) → gives (Wrong n p) rest ≡ step_gives x at budget (lent_from t m)
            → gives (stopping t n p) (back_from t m rest) ≡ running x budget l
        unfolding running stop_at is_left
        fault_here n p e =
            let f = told_fault x at budget (from_text t m) rest n p (e ∙ ap (step_gives x at budget) (lent_is t m)) in
            let j : fault_from x (begin_of x t) ≡ Fault n p = ap (fault_from x) (sym w.place) ∙ f.0 in
            rw (stops_here (λ _. rw (there, j)), there, lt-leb max_texts t g, j)
            (ap (gives (stopping t n p)) (given_back ∙ ap (put_back t m) f.1 ∙ unchanged t m ∙ w.so_far))

        -- text t is answered
        pub next : (to : ℕ) → length rest.answers ≡ length (lent_from t m).answers
            → length rest.offsets ≡ length (lent_from t m).offsets → gives (Next to) rest ≡ step_gives x at budget (lent_from t m)
            → Walked x budget l to (t + 1) (back_from t m rest)
        unfolding begin_of is_left
        next to c d e =
            let f = told_next x at budget (from_text t m) rest to (e ∙ ap (step_gives x at budget) (lent_is t m)) in
            let y = (begins_with_its_text (text_from x at) (fine_back x at f.0)).inside in
            let j : fault_from x (begin_of x t) ≡ Fine = ap (fault_from x) (sym w.place) ∙ f.0 in
            rw add-one
            (record {
              place = f.1 ∙ ap (λ (n : ℕ). n + end_of (text_from x n)) w.place;
              inside = omega (arith, f.1, y, length-take max_text (drop at x), length-drop at x);
              before = λ r k. ⊎_elim (w.before r) (λ h. let z : r ≡ t = omega arith in rw (z, there, j)) (lt_or_ge r t);
              few = omega arith;
              so_far = given_back ∙ one_more x budget l at t m rest w.place w.so_far f.2;
              answers_kept = answers_back c;
              offsets_kept = offsets_back d;
              answers_room = w.answers_room;
              offsets_room = w.offsets_room;
            })
