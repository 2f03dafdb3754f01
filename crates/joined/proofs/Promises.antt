-- What `plan_texts` promises, at its contract: on the joined input x it answers r at this budget, and the lent lists, which were l, are
-- left as m. Assumes nothing.
use mathlib.Core.Path.{◌≡◌, refl, sym, ap, ◌∙◌}
use mathlib.Core.List.{List, [], ◌∷◌, ◌++◌, append-nil}
use Prim.Native.Nat.{ℕ, suc, ◌*◌, ◌≤◌, ◌<◌}
use native.Mathlib.Omega.{arith}
use lib.ListN.{length, drop, length-append}
use Rattle.std.specs.Prelude.{Result, Ok, Err}
use Rattle.ground.specs.Protocol.{gives}
use Rattle.ground.specs.Refusals.{number_of}
use Rattle.ground.specs.declared.Fault.{Fault}
use Rattle.ground.specs.declared.Refusal.TheVariants.{TooManyTexts}
use Rattle.ground.proofs.Answers.{no_second as one_said, no_second_outcome}
use Rattle.link.specs.Limits.{max_rows}
use Rattle.text.specs.Limits.{max_text, cut_line}
use Rattle.text.specs.Bytes.{newline}
use Rattle.text.specs.Answer.{said as read_said, reading}
use Rattle.text.proofs.Texts.{text_short}
use Rattle.joined.specs.Limits.{max_texts, answer_size}
use Rattle.joined.specs.Texts.{begin_of, answered}
use Rattle.joined.specs.Answer.{said, stopping, Lists, planning}
use Rattle.joined.specs.Meaning.{joined_of, Accepted, AllAccepted, AsAlone, KeptFrom, Fits, AnswersTexts}
use Rattle.joined.specs.declared.Stopped.{Stopped}
use Rattle.joined.proofs.Answers.{unsaid, again, stopped_so}
use Rattle.joined.proofs.Joining.{table_text, all_answered}
use Rattle.joined.proofs.Splitting.{front}
use Rattle.joined.proofs.Running.{count, going, few, kept, as_alone, all_done, stopped_by, one_too_many}
use Rattle.joined.proofs.Accident.{some_byte, lost_fault, own_fault, fault_before}

-- "Show that no second answer satisfies it": nor a second content of the lists
pub no_second : (x : List ℕ) (budget : ℕ) (l : Lists) (r s : Result ℕ Stopped) (m other : Lists) → gives (said r) m ≡ planning x budget l
    → gives (said s) other ≡ planning x budget l → (r ≡ s) × (m ≡ other)
no_second x budget l r s m other = no_second_outcome said unsaid again

-- the answer of a run that this fault stopped behind these texts
abbrev pub stopped_at : List (List ℕ) → Fault → Result ℕ Stopped
stopped_at ts q = Err (record { texts = length ts; fault = q })

stopped_is : (r : Result ℕ Stopped) (ts : List (List ℕ)) (q : Fault) → said r ≡ stopping (length ts) (number_of q.refusal) q.place
    → r ≡ stopped_at ts q
unfolding said
stopped_is r ts q e = one_said said unsaid again {r = r} {s = stopped_at ts q} e refl

-- "Answer each, in order, exactly as reading it and running the exact planner answer on that text alone, with the whole budget": whatever
-- the input, what is answered are accepted texts in front of it, each with the answer that it gets alone; every other place of both lists
-- is as it was.
pub each_as_alone : (x : List ℕ) (budget : ℕ) (l : Lists) → Fits x l → (r : Result ℕ Stopped) (m : Lists)
    → gives (said r) m ≡ planning x budget l → AnswersTexts x budget l r m
each_as_alone x budget l f r m e =
    let w = front x (answered x) (going x budget l f r m e) in
    let z = drop (begin_of x (answered x)) x in
    let f' : Fits (joined_of w.texts ++ z) l = rw (← w.split) f in
    record {
      texts = w.texts;
      behind = z;
      input = w.split;
      count = count x budget l f r m e ∙ sym w.count;
      all = w.all;
      alone = as_alone w.texts z w.all (omega (arith, w.count, few x budget l f r m e)) budget l f' r m
          (e ∙ ap (λ (y : List ℕ). planning y budget l) w.split);
      kept = rw w.count (kept x budget l f r m e);
    }

-- joined texts are short enough
joined_short : (ts : List (List ℕ)) → AllAccepted ts → length (joined_of ts) ≤ max_text * length ts
unfolding joined_of
joined_short [] all = omega arith
joined_short (y ∷ ys) all =
    let w = table_text y (all 0 (omega arith)) in
    omega (
      arith,
      length-append y (joined_of ys),
      ap length w.text,
      text_short w.link w.delays w.good,
      joined_short ys (λ t h. all (suc t) (omega arith)),
    )

-- So up to 32 accepted texts, joined, get as many answers.
pub joined_as_alone : (ts : List (List ℕ)) → AllAccepted ts → length ts ≤ max_texts → (budget : ℕ) (l : Lists)
    → answer_size * max_texts ≤ length l.answers → max_rows * max_texts ≤ length l.offsets
    → (r : Result ℕ Stopped) (m : Lists) → gives (said r) m ≡ planning (joined_of ts) budget l
    → (r ≡ Ok (length ts)) × AsAlone ts budget l m × KeptFrom (length ts) l m
joined_as_alone ts all most budget l a o r m e =
    let n = append-nil (joined_of ts) in
    let f : Fits (joined_of ts ++ []) l = record { short = omega (arith, ap length n, joined_short ts all); answers = a; plans = o } in
    all_done ts [] all most budget l f r m (e ∙ ap (λ (x : List ℕ). planning x budget l) (sym n)) refl

module _ (ts : List (List ℕ)) (z : List ℕ) (all : AllAccepted ts) (most : length ts ≤ max_texts) (budget : ℕ) (l : Lists)
    (f : Fits (joined_of ts ++ z) l) (r : Result ℕ Stopped) (m : Lists) (e : gives (said r) m ≡ planning (joined_of ts ++ z) budget l) where
  -- "the answers before it stand": whatever follows accepted texts, their answers are those that they get alone
  pub front_as_alone : (length ts ≤ (said r).texts) × AsAlone ts budget l m
  front_as_alone = (
    omega (arith, count (joined_of ts ++ z) budget l f r m e, all_answered ts z all most),
    as_alone ts z all most budget l f r m e,
  )

  -- "24 where a thirty-third text begins, with that byte of the input, after the 32 answers": whatever stands there
  pub thirty_third : length ts ≡ max_texts → 1 ≤ length z
      → (r ≡ stopped_at ts (record { refusal = TooManyTexts; place = length (joined_of ts) })) × AsAlone ts budget l m
      × KeptFrom (length ts) l m
  unfolding said
  thirty_third h some =
      let s = one_too_many ts z all most budget l f r m e some (omega arith) in
      (stopped_is r ts (record { refusal = TooManyTexts; place = length (joined_of ts) }) s.0, s.1, s.2)

  -- "At the first text fault stop, and give that text's index with its own place": where the last text is one that `read_table` refuses
  -- alone, with 1 to 9, the run stops at it with the same number and place
  pub fault_as_alone : length ts < max_texts → 1 ≤ length z → length z ≤ max_text → (old : List ℕ) (q : Fault) (new : List ℕ)
      → number_of q.refusal < 10 → gives (read_said (Err q)) new ≡ reading z old
      → (r ≡ stopped_at ts q) × AsAlone ts budget l m × KeptFrom (length ts) l m
  unfolding read_said
  fault_as_alone h some short old q new low g =
      let s = stopped_by ts z all most budget l f r m e some _ _ h (own_fault ts z all old _ _ new short low g) in
      (stopped_is r ts q s.0, s.1, s.2)

-- Where other bytes follow it, this holds of each number but 3, which says that its line does not end: with bytes behind it, it may.
pub fault_before_others : (ts : List (List ℕ)) (y z : List ℕ) → AllAccepted ts → length ts < max_texts → 1 ≤ length y → length y ≤ max_text
    → (budget : ℕ) (l : Lists) → Fits (joined_of ts ++ (y ++ z)) l → (r : Result ℕ Stopped) (m : Lists)
    → gives (said r) m ≡ planning (joined_of ts ++ (y ++ z)) budget l
    → (old : List ℕ) (q : Fault) (new : List ℕ) → number_of q.refusal < 10 → (number_of q.refusal ≡ cut_line → ⊥)
    → gives (read_said (Err q)) new ≡ reading y old → (r ≡ stopped_at ts q) × AsAlone ts budget l m × KeptFrom (length ts) l m
unfolding read_said
fault_before_others ts y z all h some short budget l f r m e old q new low other g =
    let s = stopped_by ts (y ++ z) all (omega arith) budget l f r m e (omega (arith, length-append y z)) _ _ h
    (fault_before ts y z all old _ _ new short low other g) in
    (stopped_is r ts q s.0, s.1, s.2)

-- Two rows are never joined into one: where one of the texts has lost one byte 10, wherever it stood, the run stops at that text, and the
-- texts before it have their answers.
pub lost_newline : (ts after : List (List ℕ)) (a b : List ℕ) → AllAccepted ts → Accepted (a ++ newline ∷ b) → AllAccepted after
    → length ts < max_texts → (budget : ℕ) (l : Lists) → Fits (joined_of ts ++ ((a ++ b) ++ joined_of after)) l
    → (r : Result ℕ Stopped) (m : Lists) → gives (said r) m ≡ planning (joined_of ts ++ ((a ++ b) ++ joined_of after)) budget l
    → (q : Fault) × (r ≡ stopped_at ts q) × AsAlone ts budget l m × KeptFrom (length ts) l m
lost_newline ts after a b all y rest h budget l f r m e =
    let z = (a ++ b) ++ joined_of after in
    let w = lost_fault ts after a b all y rest in
    let some : 1 ≤ length z = omega (arith, length-append (a ++ b) (joined_of after), some_byte a b y) in
    let s = stopped_by ts z all (omega arith) budget l f r m e some w.0 w.1 h w.2 in
    let q = stopped_so r (length ts) w.0 w.1 s.0 in
    (q.0, q.1, s.1, s.2)
