-- The lists once n texts are answered: each text's places hold its own answer, and the rest is as it was. Assumes nothing.
use mathlib.Core.Path.{◌≡◌, refl, sym, ap, ◌∙◌}
use mathlib.Core.Bool.{false}
use mathlib.Core.List.{List, [], ◌++◌, append-nil}
use Prim.Native.Nat.{ℕ, suc, ◌*◌, ◌≤◌, ◌<◌}
use native.Mathlib.Omega.{arith}
use Rattle.std.specs.Prelude.{Result, Ok, Err}
use lib.Dec.{leb}
use lib.ListN.{length, take, drop, length-drop, length-take}
use lib.Seq.{length-take-le, drop-length}
use Rattle.ground.specs.Judging.{Judged, Fine, Fault, first}
use Rattle.ground.specs.Lent.{on_front, block}
use Rattle.ground.specs.Protocol.{Outcome, gives}
use Rattle.ground.specs.declared.Fault.{Fault as Refused}
use Rattle.ground.proofs.Blocks.{Series, blocks, behind, long}
use Rattle.ground.proofs.Bools.{or_none, never}
use Rattle.link.specs.Limits.{max_rows}
use Rattle.text.specs.Faults.{text_faults, rows_of}
use Rattle.text.specs.Answer.{table_link, delays_of}
use Rattle.text.proofs.Right.{right}
use Rattle.text.proofs.Values.{length_delays}
use Rattle.search.specs.Answer.{Said as Searched, Answers, given}
use Rattle.search.specs.declared.Answer.{Answer}
use Rattle.search.specs.declared.Answer.TheVariants.{Plan, Nothing, Spent}
use Rattle.search.proofs.Promises.{tail_kept}
use Rattle.search.proofs.Verdicts.{some_answer}
use Rattle.joined.specs.Limits.{max_texts, answer_size}
use Rattle.joined.specs.Texts.{text_from, begin_of, fault_from, is_fault, is_left}
use Rattle.joined.specs.Answer.{Lists, answer_as, plan_of, in_front, at_text, lists_to}
use Rattle.joined.specs.Meaning.{KeptFrom}
use Rattle.joined.proofs.Steps.{fine_back}

-- no more offsets are given than there are rows
given_few : (r : Result Answer Refused) (n : ℕ) (new : List ℕ) → length (given r n new) ≤ n
given_few (Ok (Plan t)) n new = omega (arith, length-take n new)
given_few (Ok (Nothing t)) n new = omega arith
given_few (Ok (Spent t)) n new = omega arith
given_few (Err f) n new = omega arith

-- four places are all taken
none_left : (xs : List ℕ) → answer_size ≤ length xs → drop answer_size (take answer_size xs) ≡ []
none_left xs h =
    let e = length-take-le answer_size xs h in
    ap (λ (n : ℕ). drop n (take answer_size xs)) (sym e) ∙ drop-length (take answer_size xs)

-- nothing is wrong with a text that is not left
pub answered_fine : (x : List ℕ) (t : ℕ) → is_left x t ≡ false → first (text_faults (text_from x (begin_of x t))) ≡ Fine
unfolding is_left
answered_fine x t e =
    fine_back x (begin_of x t) (go (fault_from x (begin_of x t)) (or_none (leb (length x) (begin_of x t)) _ e).1)
  where
    go : (j : Judged) → is_fault j ≡ false → j ≡ Fine
    go Fine f = refl
    go (Fault n p) f = never (cc f)

module _ (x : List ℕ) (budget : ℕ) (l : Lists) where
  -- text t, the lists when it comes, and the planner's answer to it
  abbrev pub text : ℕ → List ℕ
  text t = text_from x (begin_of x t)

  abbrev pub lent : ℕ → List ℕ
  lent t = drop (max_rows * t) (lists_to x budget t l).offsets

  abbrev pub outcome_of : ℕ → Outcome Searched (List ℕ)
  outcome_of t = plan_of (text t) budget (lent t)

  abbrev pub answer_of : ℕ → Result Answer Refused
  answer_of t = (some_answer (table_link (text t)) (delays_of (text t) (rows_of (text t))) budget (lent t)).0

  abbrev pub numbers_of : ℕ → List ℕ
  numbers_of t = answer_as (outcome_of t).says (rows_of (text t))

  abbrev pub given_of : ℕ → List ℕ
  given_of t = given (answer_of t) (rows_of (text t)) (outcome_of t).leaves

  pub answered_so : (t : ℕ)
      → Answers (table_link (text t)) (delays_of (text t) (rows_of (text t))) budget (lent t) (answer_of t) (outcome_of t).leaves
  answered_so t =
      ap (λ (s : Searched). gives s (outcome_of t).leaves)
      (some_answer (table_link (text t)) (delays_of (text t) (rows_of (text t))) budget (lent t)).1

  answers_step : (t : ℕ) → (lists_to x budget (suc t) l).answers
      ≡ take (answer_size * t) (lists_to x budget t l).answers
      ++ on_front (numbers_of t) (drop (answer_size * t) (lists_to x budget t l).answers)
  unfolding lists_to at_text in_front
  answers_step t = refl

  offsets_step : (t : ℕ) → (lists_to x budget (suc t) l).offsets
      ≡ take (max_rows * t) (lists_to x budget t l).offsets ++ on_front (given_of t) (lent t)
  unfolding lists_to at_text in_front
  offsets_step t =
      let e = tail_kept _ _ budget (lent t) (answer_of t) (outcome_of t).leaves (answered_so t) in
      let n = length_delays (text t) (rows_of (text t)) in
      ap (λ (os : List ℕ). take (max_rows * t) (lists_to x budget t l).offsets ++ os)
      (e ∙ ap (λ (m : ℕ). on_front (given (answer_of t) m (outcome_of t).leaves) (lent t)) n)

  module _ (n : ℕ) (few : n ≤ max_texts) (all : (t : ℕ) → t < n → is_left x t ≡ false) (a : answer_size * max_texts ≤ length l.answers)
      (o : max_rows * max_texts ≤ length l.offsets) where
    answers_series : Series answer_size n l.answers (λ t. (lists_to x budget t l).answers) numbers_of
    unfolding lists_to
    answers_series = record { start = refl; step = λ t h. answers_step t; fits = λ t h. omega arith; room = omega arith }

    offsets_series : Series max_rows n l.offsets (λ t. (lists_to x budget t l).offsets) given_of
    unfolding lists_to
    offsets_series =
        record {
          start = refl;
          step = λ t h. offsets_step t;
          fits = λ t h. omega (
            arith,
            given_few (answer_of t) (rows_of (text t)) (outcome_of t).leaves,
            (right (text t) (answered_fine x t (all t h))).few,
          );
          room = omega arith;
        }

    pub numbers_at : (t : ℕ) → t < n → block answer_size t (lists_to x budget n l).answers ≡ numbers_of t
    numbers_at t h =
        blocks answer_size n l.answers (λ t. (lists_to x budget t l).answers) numbers_of answers_series t n h (omega arith)
        ∙ ap (λ (r : List ℕ). numbers_of t ++ r) (none_left (drop (answer_size * t) l.answers)
        (omega (arith, length-drop (answer_size * t) l.answers)))
        ∙ append-nil (numbers_of t)

    pub offsets_at : (t : ℕ) → t < n → block max_rows t (lists_to x budget n l).offsets ≡ on_front (given_of t) (block max_rows t l.offsets)
    offsets_at t h = blocks max_rows n l.offsets (λ t. (lists_to x budget t l).offsets) given_of offsets_series t n h (omega arith)

    pub rest_kept : KeptFrom n l (lists_to x budget n l)
    rest_kept =
        record {
          answers = behind answer_size n l.answers (λ t. (lists_to x budget t l).answers) numbers_of answers_series n (omega arith);
          offsets = behind max_rows n l.offsets (λ t. (lists_to x budget t l).offsets) given_of offsets_series n (omega arith);
        }

    pub lent_room : (t : ℕ) → t < n → max_rows ≤ length (lent t)
    lent_room t h =
        omega (
          arith,
          length-drop (max_rows * t) (lists_to x budget t l).offsets,
          long max_rows n l.offsets (λ t. (lists_to x budget t l).offsets) given_of offsets_series t (omega arith),
        )
