-- How the code shows what `plan_texts` answers, and what an answer tells: the call's own faults, or the run. Assumes nothing.
use mathlib.Core.Path.{◌≡◌, refl, sym, ap}
use mathlib.Core.Bool.{true, ◌||◌}
use mathlib.Core.List.{List}
use Prim.Native.Nat.{ℕ, ◌*◌}
use Rattle.std.specs.Prelude.{Result, Ok, Err}
use lib.Dec.{ltb}
use lib.ListN.{length}
use borrow.Author.Tests.{ltb-false, le-ltb}
use Rattle.ground.specs.Judging.{Judged, Fine, Fault as AtFault, first}
use Rattle.ground.specs.Protocol.{Outcome, gives, keeping}
use Rattle.ground.specs.Refusals.{fault_of, judged as judged_as}
use Rattle.std.specs.Result.{is_ok}
use Rattle.ground.specs.declared.Fault.{Fault}
use Rattle.ground.proofs.Refusals.{refused as fault_by, fault_again}
use Rattle.ground.proofs.Answers.{refused, goes_on}
use Rattle.ground.proofs.Bools.{or_none, never}
use Rattle.ground.proofs.Faults.{pass, passed, fine}
use Rattle.link.specs.Limits.{max_rows, bad_length}
use Rattle.joined.specs.Limits.{max_texts, max_joined, answer_size, long_input}
use Rattle.joined.specs.Meaning.{Fits}
use Rattle.joined.specs.declared.Stopped.{Stopped}
use Rattle.joined.specs.Answer.{Verdict, all, refusal, Said, said, stopping, Lists, call_faults, running, planning}

-- an answer and its paper form: the form gives the answer back
abbrev pub unsaid : Said → Result ℕ Stopped
unsaid s = back s.verdict s
  where
    back : Verdict → Said → Result ℕ Stopped
    back all s = Ok s.texts
    back refusal s = Err (record { texts = s.texts; fault = fault_by s.number s.place })

pub again : (r : Result ℕ Stopped) → unsaid (said r) ≡ r
unfolding said
again (Ok t) = refl
again (Err s) = ap (λ (f : Fault). Err (record { texts = s.texts; fault = f })) (fault_again s.fault)

-- what a run tells that was stopped
pub stopped_so : (r : Result ℕ Stopped) (t n p : ℕ) → said r ≡ stopping t n p
    → (f : Fault) × (r ≡ Err (record { texts = t; fault = f })) × (fault_of f ≡ AtFault n p)
unfolding said
stopped_so (Ok u) t n p e = let v : all ≡ refusal = ap (λ (s : Said). s.verdict) e in never cc
stopped_so (Err s) t n p e =
    let u : s.texts ≡ t = ap (λ (s : Said). s.texts) e in
    (s.fault, ap (λ (k : ℕ). Err (record { texts = k; fault = s.fault })) u, ap (λ (s : Said). AtFault s.number s.place) e)

-- a judge that let a call through
pub judged_ok : (r : Result Unit Fault) → true ≡ is_ok r → judged_as r ≡ Fine
judged_ok (Ok u) e = refl
judged_ok (Err f) e = never (cc e)

-- the call's own judging: 23, 11
abbrev pub judged : List ℕ → Lists → Judged
judged x l = first (call_faults (length x) (length l.answers) (length l.offsets))

-- it lets through exactly the inputs and lists that fit
pub fits : (x : List ℕ) (l : Lists) → judged x l ≡ Fine → Fits x l
unfolding call_faults
fits x l e =
    let numbers = length l.answers in
    let offsets = length l.offsets in
    let a = passed (ltb max_joined (length x)) long_input 0 _ e in
    let b = or_none (ltb numbers (answer_size * max_texts)) (ltb offsets (max_rows * max_texts))
    (passed (ltb numbers (answer_size * max_texts) || ltb offsets (max_rows * max_texts)) bad_length 0 _ a.1).0 in
    record {
      short = ltb-false max_joined (length x) a.0;
      answers = ltb-false numbers (answer_size * max_texts) b.0;
      plans = ltb-false offsets (max_rows * max_texts) b.1;
    }

pub let_in : (x : List ℕ) (l : Lists) → Fits x l → judged x l ≡ Fine
unfolding call_faults
let_in x l f =
    sym (pass _ _ long_input 0 (le-ltb _ _ f.short) (pass _ _ bad_length 0 (rw (le-ltb _ _ f.answers) (le-ltb _ _ f.plans)) fine))

module _ (x : List ℕ) (budget : ℕ) (l : Lists) where
  pub call_refused : (n p : ℕ) → judged x l ≡ AtFault n p → gives (stopping 0 n p) l ≡ planning x budget l
  unfolding planning
  call_refused n p e = refused (keeping (stopping 0) l) (running x budget l) e

  pub call_runs : (o : Outcome Said Lists) → judged x l ≡ Fine → o ≡ running x budget l → o ≡ planning x budget l
  unfolding planning
  call_runs o e f = goes_on (keeping (stopping 0) l) e f

  -- a call that fits answers the run
  pub runs : Fits x l → planning x budget l ≡ running x budget l
  unfolding planning
  runs f = sym (goes_on (keeping (stopping 0) l) (let_in x l f) refl)
