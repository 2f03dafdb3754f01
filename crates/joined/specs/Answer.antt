-- What `plan_texts` answers of the joined input x, and what it leaves in the two lent lists.
use Rattle.std.specs.Prelude.{◌||◌, List, [], ◌∷◌, ◌++◌, ℕ, zero, suc, ◌*◌, ltb, length, take, drop, Result, Ok, Err}
use Rattle.ground.specs.Judging.{Cause, first, when}
use Rattle.ground.specs.Lent.{on_front}
use Rattle.ground.specs.Protocol.{Outcome, gives, keeping, unless}
use Rattle.ground.specs.Refusals.{number_of}
use Rattle.link.specs.Limits.{max_rows, bad_length}
use Rattle.text.specs.Faults.{rows_of}
use Rattle.text.specs.Answer.{table_link, delays_of}
use Rattle.search.specs.Answer.{Said as Searched, exactly}
use Rattle.joined.specs.Limits.{max_texts, max_joined, answer_size, long_input}
use Rattle.joined.specs.Texts.{text_from, begin_of, answered, stop_at}
use Rattle.joined.specs.declared.Stopped.{Stopped}

-- every text was answered, or a refusal stopped the run
pub data Verdict : Type 0 where
  all refusal : Verdict

-- the paper's form of an answer: `texts` were answered, so that it is also the index of the text at fault
pub record Said : Type 0 where
  pub verdict : Verdict
  pub number : ℕ
  pub place : ℕ
  pub texts : ℕ

-- "Fields of an answer that don't apply are 0"
abbrev pub all_of : ℕ → Said
all_of t = record { verdict = all; number = 0; place = 0; texts = t }

abbrev pub stopping : ℕ → ℕ → ℕ → Said
stopping t n p = record { verdict = refusal; number = n; place = p; texts = t }

unfoldable pub said : Result ℕ Stopped → Said
said (Ok t) = all_of t
said (Err s) = stopping s.texts (number_of s.fault.refusal) s.fault.place

-- the two lent lists: four numbers for each answer, and 64 offsets for each text
pub record Lists : Type 0 where
  pub answers : List ℕ
  pub offsets : List ℕ

abbrev pub lists : List ℕ → List ℕ → Lists
lists numbers os = record { answers = numbers; offsets = os }

-- one answer: number, place, tests, and the rows that were read
abbrev pub answer_as : Searched → ℕ → List ℕ
answer_as s rows = s.number ∷ s.place ∷ s.tests ∷ rows ∷ []

-- "exactly as reading it and running the exact planner answer on that text alone, with the whole budget": the planner's answer to the
-- text x, with the list `os` lent
abbrev pub plan_of : List ℕ → ℕ → List ℕ → Outcome Searched (List ℕ)
plan_of x budget os = exactly (table_link x) (delays_of x (rows_of x)) budget os

-- the lists with the answer to the text x in front
unfoldable pub in_front : List ℕ → ℕ → Lists → Lists
in_front x budget l =
    lists (on_front (answer_as (plan_of x budget l.offsets).says (rows_of x)) l.answers) (plan_of x budget l.offsets).leaves

-- the same from text t's places on: "text t, from 0, at 64t"
unfoldable pub at_text : ℕ → (Lists → Lists) → Lists → Lists
at_text t f l =
    let m = f (lists (drop (answer_size * t) l.answers) (drop (max_rows * t) l.offsets)) in
    lists (take (answer_size * t) l.answers ++ m.answers) (take (max_rows * t) l.offsets ++ m.offsets)

-- the lists once the first t texts are answered
unfoldable pub lists_to : List ℕ → ℕ → ℕ → Lists → Lists
lists_to x budget zero l = l
lists_to x budget (suc t) l = at_text t (in_front (text_from x (begin_of x t)) budget) (lists_to x budget t l)

-- "23, before any answer, for joined input above 32,768 bytes, place 0; then 11 if a lent list lacks 32 answers or 2,048 offsets"
unfoldable pub call_faults : ℕ → ℕ → ℕ → List Cause
call_faults bytes numbers offsets =
    when (ltb max_joined bytes) long_input 0
    ∷ when (ltb numbers (answer_size * max_texts) || ltb offsets (max_rows * max_texts)) bad_length 0
    ∷ []

-- "Answer each, in order", up to the text that is not answered
unfoldable pub running : List ℕ → ℕ → Lists → Outcome Said Lists
running x budget l =
    gives (unless (stopping (answered x)) (stop_at x (answered x)) (all_of (answered x))) (lists_to x budget (answered x) l)

-- 23, 11; or the answers, up to the end of the input, a text fault or 24
unfoldable pub planning : List ℕ → ℕ → Lists → Outcome Said Lists
planning x budget l =
    unless (keeping (stopping 0) l) (first (call_faults (length x) (length l.answers) (length l.offsets))) (running x budget l)
