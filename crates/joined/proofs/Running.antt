-- A run over texts that are joined, with anything behind them: the texts in front get their own answers, whatever follows. Assumes nothing.
use mathlib.Core.Path.{◌≡◌, refl, sym, ap, ◌∙◌}
use mathlib.Core.Bool.{true, false}
use mathlib.Core.List.{List, [], ◌++◌}
use Prim.Native.Nat.{ℕ, ◌≤◌, ◌<◌}
use native.Mathlib.Omega.{arith}
use Rattle.std.specs.Prelude.{Result, Ok}
use lib.Dec.{leb}
use lib.ListN.{length, length-append, length-drop}
use borrow.Author.Tests.{le-leb, lt-leb}
use Rattle.ground.specs.Protocol.{Outcome, gives, unless}
use Rattle.ground.specs.Judging.{Judged, Fine, Fault}
use Rattle.ground.proofs.Answers.{no_second as one_said}
use Rattle.ground.proofs.Minimum.{least_is, least_at}
use Rattle.joined.specs.Limits.{max_texts, too_many_texts}
use Rattle.joined.specs.Texts.{begin_of, fault_from, is_left, answered, stop_at}
use Rattle.joined.specs.Answer.{Said, said, all_of, stopping, Lists, lists_to, running, planning}
use Rattle.joined.specs.Meaning.{joined_of, AllAccepted, AsAlone, KeptFrom, Fits}
use Rattle.joined.specs.declared.Stopped.{Stopped}
use Rattle.joined.proofs.Answers.{unsaid, again, runs}
use Rattle.joined.proofs.Filled.{rest_kept}
use Rattle.joined.proofs.Joining.{goes_on, all_answered, behind_all}
use Rattle.joined.proofs.Alone.{holds}

-- what any call that fits tells
module _ (x : List ℕ) (budget : ℕ) (l : Lists) (f : Fits x l) (r : Result ℕ Stopped) (m : Lists)
    (e : gives (said r) m ≡ planning x budget l) where
  leaves : m ≡ lists_to x budget (answered x) l
  unfolding running
  leaves = ap (λ (o : Outcome Said Lists). o.leaves) (e ∙ runs x budget l f)

  says : said r ≡ unless (stopping (answered x)) (stop_at x (answered x)) (all_of (answered x))
  unfolding running
  says = ap (λ (o : Outcome Said Lists). o.says) (e ∙ runs x budget l f)

  pub count : (said r).texts ≡ answered x
  count = ap (λ (s : Said). s.texts) says ∙ go (stop_at x (answered x))
    where
      go : (j : Judged) → (unless (stopping (answered x)) j (all_of (answered x))).texts ≡ answered x
      go Fine = refl
      go (Fault n p) = refl

  pub going : (t : ℕ) → t < answered x → is_left x t ≡ false
  unfolding answered
  going = (least_is (is_left x) max_texts).before

  pub few : answered x ≤ max_texts
  unfolding answered
  few = (least_is (is_left x) max_texts).low

  -- the rest of both lists is kept
  pub kept : KeptFrom (answered x) l m
  kept = rw leaves (rest_kept x budget l (answered x) few going f.answers f.plans)

module _ (ts : List (List ℕ)) (z : List ℕ) (all : AllAccepted ts) (most : length ts ≤ max_texts) (budget : ℕ) (l : Lists)
    (f : Fits (joined_of ts ++ z) l) (r : Result ℕ Stopped) (m : Lists) (e : gives (said r) m ≡ planning (joined_of ts ++ z) budget l) where
  abbrev x : List ℕ
  x = joined_of ts ++ z

  pub as_alone : AsAlone ts budget l m
  as_alone t h n a plan w =
      rw (leaves x budget l f r m e)
      (holds ts z all budget l f (answered x) (few x budget l f r m e) (going x budget l f r m e) t
      (omega (arith, all_answered ts z all most)) h n a plan w)

  -- the text behind them is left
  module _ (stops : length ts < max_texts → is_left x (length ts) ≡ true) where
    all_of_them : answered x ≡ length ts
    unfolding answered
    all_of_them = least_at (is_left x) max_texts (length ts) most (goes_on ts z all) stops

    rest : KeptFrom (length ts) l m
    rest = rw (sym all_of_them) (kept x budget l f r m e)

    ends : said r ≡ unless (stopping (length ts)) (stop_at x (length ts)) (all_of (length ts))
    ends = says x budget l f r m e ∙ rw all_of_them

  -- nothing stands behind them
  module _ (none : z ≡ []) where
    nothing_left : leb (length x) (begin_of x (length ts)) ≡ true
    nothing_left =
        le-leb (length x) (begin_of x (length ts))
        (omega (arith, ap length (behind_all ts z all ∙ none), length-drop (begin_of x (length ts)) x))

    left : is_left x (length ts) ≡ true
    unfolding is_left
    left = rw nothing_left

    pub all_done : (r ≡ Ok (length ts)) × AsAlone ts budget l m × KeptFrom (length ts) l m
    unfolding stop_at said
    all_done = (
      one_said said unsaid again {r = r} {s = Ok (length ts)} (ends (λ _. left)) (sym (rw nothing_left)),
      as_alone,
      rest (λ _. left),
    )

  -- something does: where it begins, and what is wrong there
  module _ (some : 1 ≤ length z) where
    begins_there : begin_of x (length ts) ≡ length (joined_of ts)
    begins_there =
        omega (arith, ap length (behind_all ts z all), length-drop (begin_of x (length ts)) x, length-append (joined_of ts) z)

    there : leb (length x) (begin_of x (length ts)) ≡ false
    there = lt-leb (length x) (begin_of x (length ts)) (omega (arith, begins_there, length-append (joined_of ts) z))

    fault_left : (n p : ℕ) → fault_from x (begin_of x (length ts)) ≡ Fault n p → is_left x (length ts) ≡ true
    unfolding is_left
    fault_left n p g = rw (there, g)

    pub stopped_by : (n p : ℕ) → length ts < max_texts → fault_from x (begin_of x (length ts)) ≡ Fault n p
        → (said r ≡ stopping (length ts) n p) × AsAlone ts budget l m × KeptFrom (length ts) l m
    unfolding stop_at
    stopped_by n p h g = (
      ends (λ _. fault_left n p g) ∙ rw (there, lt-leb max_texts (length ts) h, g),
      as_alone,
      rest (λ _. fault_left n p g),
    )

    pub one_too_many : max_texts ≤ length ts
        → (said r ≡ stopping (length ts) too_many_texts (length (joined_of ts))) × AsAlone ts budget l m × KeptFrom (length ts) l m
    unfolding stop_at
    one_too_many h = (
      ends (λ k. absurd (omega arith)) ∙ rw (there, le-leb max_texts (length ts) h, begins_there),
      as_alone,
      rest (λ k. absurd (omega arith)),
    )
