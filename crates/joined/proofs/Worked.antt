-- Each promise, used once: on document 01's worked text, joined to itself, damaged, and 32 times over. Assumes nothing.
use mathlib.Core.Path.{◌≡◌, refl}
use mathlib.Core.List.{List, [], ◌∷◌, ◌++◌}
use Prim.Native.Nat.{ℕ, zero, suc, ◌≤◌, ◌<◌}
use native.Mathlib.Omega.{arith}
use Rattle.std.specs.Prelude.{Result, Ok, Err}
use lib.ListN.{length, get_or, replicate, length-replicate}
use Rattle.ground.specs.Judging.{Fault as AtFault, first}
use Rattle.ground.specs.Protocol.{gives}
use Rattle.ground.specs.Refusals.{number_of}
use Rattle.ground.specs.declared.Fault.{Fault}
use Rattle.ground.specs.declared.Refusal.{Refusal}
use Rattle.ground.specs.declared.Refusal.TheVariants.{BadCount, BadLength, LongInput, TooManyTexts}
use Rattle.text.proofs.Worked.{front, back, text, worked}
use Rattle.search.specs.declared.Answer.TheVariants.{Plan}
use Rattle.search.proofs.Worked.{answers}
use Rattle.joined.specs.Answer.{said, Lists, lists, call_faults, planning}
use Rattle.joined.specs.Meaning.{joined_of, Accepted, AllAccepted, Alone, Holds, KeptFrom, Fits, AnswersTexts}
use Rattle.joined.specs.declared.Stopped.{Stopped}
use Rattle.joined.proofs.Answers.{judged, call_refused}
use Rattle.joined.proofs.Promises.{no_second, each_as_alone, joined_as_alone, front_as_alone, thirty_third, fault_as_alone}
use Rattle.joined.proofs.Promises.{fault_before_others, lost_newline}

-- document 01's first text is accepted, and alone it gets a plan after 3 tests, which is all of the budget
accepted : Accepted text
accepted =
    record { link = record { period = 10; size = 2 }; rows = 3; old = 9 ∷ 9 ∷ 9 ∷ 9 ∷ []; new = 0 ∷ 3 ∷ 7 ∷ 9 ∷ []; read = worked.whole }

alone : Alone text 3 3 (Ok (Plan 3)) (0 ∷ 2 ∷ 5 ∷ 9 ∷ [])
alone =
    record {
      link = record { period = 10; size = 2 };
      old = 9 ∷ 9 ∷ 9 ∷ 9 ∷ [];
      new = 0 ∷ 3 ∷ 7 ∷ 9 ∷ [];
      read = worked.whole;
      lent = 9 ∷ 9 ∷ 9 ∷ 9 ∷ [];
      room = omega arith;
      answer = answers.0;
    }

-- a run that was stopped behind so many texts
abbrev stop : ℕ → Refusal → ℕ → Result ℕ Stopped
stop t c p = Err (record { texts = t; fault = record { refusal = c; place = p } })

-- n of them
abbrev copies : ℕ → List (List ℕ)
copies n = replicate n text

copy : (n t : ℕ) → t < n → Accepted (get_or (copies n) t [])
copy zero t h = absurd (omega arith)
copy (suc n) zero h = accepted
copy (suc n) (suc t) h = copy n t (omega arith)

all_copies : (n : ℕ) → AllAccepted (copies n)
all_copies n t h = copy n t (omega (arith, length-replicate {A = List ℕ} n text))

-- lent lists of just 128 numbers and 2,048 offsets
abbrev lent : Lists
lent = lists (replicate 128 77) (replicate 2048 88)

fits : (x : List ℕ) → length x ≤ 32768 → Fits x lent
fits x h =
    record { short = h; answers = omega (arith, length-replicate {A = ℕ} 128 77); plans = omega (arith, length-replicate {A = ℕ} 2048 88) }

-- what the call judges before any text
no_answer_room : judged [] (lists (replicate 127 77) (replicate 2048 88)) ≡ AtFault 11 0
unfolding call_faults first
no_answer_room = refl

no_plan_room : judged [] (lists (replicate 128 77) (replicate 2047 88)) ≡ AtFault 11 0
unfolding call_faults first
no_plan_room = refl

one_byte_more : judged (replicate 32769 120) (lists [] []) ≡ AtFault 23 0
unfolding call_faults first
one_byte_more = refl

refused_so : (x : List ℕ) (l : Lists) (c : Refusal) → judged x l ≡ AtFault (number_of c) 0 → (r : Result ℕ Stopped) (m : Lists)
    → gives (said r) m ≡ planning x 3 l
    → r ≡ stop 0 c 0
unfolding said
refused_so x l c j r m e = (no_second x 3 l r (stop 0 c 0) m l e (call_refused x 3 l (number_of c) 0 j)).0

pub record Promised : Type 0 where
  -- two texts, each with the whole budget of 3
  pub both : (r : Result ℕ Stopped) (m : Lists) → gives (said r) m ≡ planning (joined_of (copies 2)) 3 lent
      → (r ≡ Ok 2) × Holds lent m 0 3 (Ok (Plan 3)) (0 ∷ 2 ∷ 5 ∷ 9 ∷ []) × Holds lent m 1 3 (Ok (Plan 3)) (0 ∷ 2 ∷ 5 ∷ 9 ∷ [])
      × KeptFrom 2 lent m
  -- the text and `x`: what is answered are accepted texts
  pub each : (r : Result ℕ Stopped) (m : Lists) → gives (said r) m ≡ planning (text ++ 120 ∷ []) 3 lent
      → AnswersTexts (text ++ 120 ∷ []) 3 lent r m
  -- "Empty input holds no text and gets no answers."
  pub empty : (r : Result ℕ Stopped) (m : Lists) → gives (said r) m ≡ planning [] 3 lent → (r ≡ Ok 0) × KeptFrom 0 lent m
  -- empty input with 127 numbers, and with 2,047 offsets; 32,769 bytes with no list at all
  pub few_answers : (r : Result ℕ Stopped) (m : Lists) → gives (said r) m ≡ planning [] 3 (lists (replicate 127 77) (replicate 2048 88))
      → r ≡ stop 0 BadLength 0
  pub few_offsets : (r : Result ℕ Stopped) (m : Lists) → gives (said r) m ≡ planning [] 3 (lists (replicate 128 77) (replicate 2047 88))
      → r ≡ stop 0 BadLength 0
  pub too_long : (r : Result ℕ Stopped) (m : Lists) → gives (said r) m ≡ planning (replicate 32769 120) 3 (lists [] [])
      → r ≡ stop 0 LongInput 0
  -- a text and `x`
  pub first_stands : (r : Result ℕ Stopped) (m : Lists) → gives (said r) m ≡ planning (joined_of (copies 1) ++ 120 ∷ []) 3 lent
      → (1 ≤ (said r).texts) × Holds lent m 0 3 (Ok (Plan 3)) (0 ∷ 2 ∷ 5 ∷ 9 ∷ [])
  -- 32 texts and `x`: 24 at byte 736
  pub one_more : (r : Result ℕ Stopped) (m : Lists) → gives (said r) m ≡ planning (joined_of (copies 32) ++ 120 ∷ []) 3 lent
      → r ≡ stop 32 TooManyTexts 736
  -- the second with its byte 10 between 3 and 7 lost: 9 at its byte 16, as alone
  pub second_damaged : (r : Result ℕ Stopped) (m : Lists) → gives (said r) m ≡ planning (joined_of (copies 1) ++ (front ++ back)) 3 lent
      → r ≡ stop 1 BadCount 16
  -- and with a third behind it: by its own number and place, and by the law of the lost byte
  pub second_of_three : (r : Result ℕ Stopped) (m : Lists)
      → gives (said r) m ≡ planning (joined_of (copies 1) ++ ((front ++ back) ++ joined_of (copies 1))) 3 lent → r ≡ stop 1 BadCount 16
  pub second_lost : (r : Result ℕ Stopped) (m : Lists)
      → gives (said r) m ≡ planning (joined_of (copies 1) ++ ((front ++ back) ++ joined_of (copies 1))) 3 lent
      → (q : Fault) × (r ≡ Err (record { texts = 1; fault = q })) × Holds lent m 0 3 (Ok (Plan 3)) (0 ∷ 2 ∷ 5 ∷ 9 ∷ [])
  pub no_other : (r s : Result ℕ Stopped) (m n : Lists) → gives (said r) m ≡ planning (joined_of (copies 2)) 3 lent
      → gives (said s) n ≡ planning (joined_of (copies 2)) 3 lent → (r ≡ s) × (m ≡ n)

pub promised : Promised
unfolding joined_of
promised =
    record {
      both = λ r m e.
          let f = fits [] (omega arith) in
          let w = joined_as_alone (copies 2) (all_copies 2) (omega arith) 3 lent f.answers f.plans r m e in
          (w.0, w.1 0 (omega arith) 3 (Ok (Plan 3)) _ alone, w.1 1 (omega arith) 3 (Ok (Plan 3)) _ alone, w.2);
      each = λ r m e. each_as_alone (text ++ 120 ∷ []) 3 lent (fits _ (omega arith)) r m e;
      empty = λ r m e.
          let f = fits [] (omega arith) in
          let w = joined_as_alone [] (λ t h. absurd (omega arith)) (omega arith) 3 lent f.answers f.plans r m e in
          (w.0, w.2);
      few_answers = λ r m e. refused_so [] (lists (replicate 127 77) (replicate 2048 88)) BadLength no_answer_room r m e;
      few_offsets = λ r m e. refused_so [] (lists (replicate 128 77) (replicate 2047 88)) BadLength no_plan_room r m e;
      too_long = λ r m e. refused_so (replicate 32769 120) (lists [] []) LongInput one_byte_more r m e;
      first_stands = λ r m e.
          let w = front_as_alone (copies 1) (120 ∷ []) (all_copies 1) (omega arith) 3 lent (fits _ (omega arith)) r m e in
          (w.0, w.1 0 (omega arith) 3 (Ok (Plan 3)) _ alone);
      one_more = λ r m e.
          (thirty_third (copies 32) (120 ∷ []) (all_copies 32) (omega arith) 3 lent (fits _ (omega arith)) r m e refl (omega arith)).0;
      second_damaged = λ r m e.
          (fault_as_alone (copies 1) (front ++ back) (all_copies 1) (omega arith) 3 lent (fits _ (omega arith)) r m e (omega arith)
          (omega arith) (omega arith) (9 ∷ 9 ∷ 9 ∷ 9 ∷ []) (record { refusal = BadCount; place = 16 }) _ (omega arith) worked.lost).0;
      second_of_three = λ r m e.
          (fault_before_others (copies 1) (front ++ back) (joined_of (copies 1)) (all_copies 1) (omega arith) (omega arith) (omega arith) 3
          lent (fits _ (omega arith)) r m e
          (9 ∷ 9 ∷ 9 ∷ 9 ∷ []) (record { refusal = BadCount; place = 16 }) _ (omega arith) (λ q. omega arith) worked.lost).0;
      second_lost = λ r m e.
          let w = lost_newline (copies 1) (copies 1) front back (all_copies 1) accepted (all_copies 1) (omega arith) 3 lent
          (fits _ (omega arith)) r m e in
          (w.0, w.1, w.2 0 (omega arith) 3 (Ok (Plan 3)) _ alone);
      no_other = λ r s m n. no_second (joined_of (copies 2)) 3 lent r s m n;
    }
