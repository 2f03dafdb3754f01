-- No second answer, and no second content of lent memory, meets a contract. Assumes nothing.
use mathlib.Core.Path.{◌≡◌, refl, sym, ap, ◌∙◌}
use mathlib.Core.Bool.{Bool, true, false, cond}
use mathlib.Core.List.{List}
use Prim.Native.Nat.{ℕ, zero, suc, ◌+◌}
use lib.Dec.{eqb}
use lib.ListN.{drop}
use Rattle.link.specs.declared.Link.{Link}
use Rattle.ground.specs.Protocol.{gives}
use Rattle.ground.proofs.Answers.{no_second_outcome}
use Rattle.ground.proofs.Refusals.{refused, fault_again}
use Rattle.ground.specs.declared.Fault.{Fault}
use Rattle.std.specs.Prelude.{Result, Ok, Err}
use Rattle.ground.specs.Judging.{outside}
use Rattle.ground.proofs.Bools.{never}
use Rattle.planfile.specs.Number.{Number, Value, Cut, TooLong, Needless, read_number, form_fault}
use Rattle.planfile.specs.FileMeaning.{Step, got, stopped, ranged, number}
use Rattle.planfile.specs.declared.BadNumber.{BadNumber}
use Rattle.planfile.specs.declared.BadNumber.TheVariants.{Malformed as BadForm, OutOfRange}
use Rattle.planfile.specs.declared.Malformed.{Malformed}
use Rattle.planfile.specs.declared.Malformed.TheVariants.{Cut as IsCut, TooLong as IsTooLong, Needless as IsNeedless}
use Rattle.planfile.specs.declared.Plan.{Plan}
use Rattle.planfile.specs.declared.Read.{Read}
use Rattle.planfile.specs.Answer.{taken_as, RefusesOwn}
use Rattle.planfile.specs.Answer.{Verdict, done, refusal, ReadSaid, PlanRead, read_said, Lists, Gives, GivesRest, read_gives}
use Rattle.planfile.specs.Answer.{WrittenSaid, PlanWritten, written_said, write_gives}

abbrev unread : ReadSaid → PlanRead
unread s = unread_as s.verdict s
  where
    unread_as : Verdict → ReadSaid → PlanRead
    unread_as done s = Ok (record { link = s.link; rows = s.rows })
    unread_as refusal s = Err (refused s.number s.place)

read_again : (r : PlanRead) → unread (read_said r) ≡ r
unfolding read_said
read_again (Ok w) = refl
read_again (Err f) = ap (λ (g : Fault). Err g) (fault_again f)

-- of a reader: an answer and the two lists that it leaves
pub no_second_reading : (bs old_d old_o : List ℕ) (r r' : PlanRead) (ds ds' os os' : List ℕ) → Gives (read_gives bs old_d old_o) r ds os →
    Gives (read_gives bs old_d old_o) r' ds' os' → (r ≡ r') × (ds ≡ ds') × (os ≡ os')
no_second_reading bs old_d old_o r r' ds ds' os os' w v =
    let same = no_second_outcome read_said unread read_again w v in
    (same.0, ap (λ (l : Lists). l.delays) same.1, ap (λ (l : Lists). l.offsets) same.1)

-- of the rest of a file, whatever its header's refusals are
pub no_second_rest : {E : Type 0} (bs : List ℕ) (at : ℕ) (h : Result (Read Plan) E) (old_d old_o : List ℕ) (q q' : Result PlanRead E)
    (ds ds' os os' : List ℕ) → GivesRest bs at h old_d old_o q ds os → GivesRest bs at h old_d old_o q' ds' os'
    → (q ≡ q') × (ds ≡ ds') × (os ≡ os')
no_second_rest bs at (Ok h) old_d old_o q q' ds ds' os os' w v =
    let same = no_second_outcome read_said unread read_again w.2 v.2 in
    (w.1 ∙ ap Ok same.0 ∙ sym v.1, ap (λ (l : Lists). l.delays) same.1, ap (λ (l : Lists). l.offsets) same.1)
no_second_rest bs at (Err e) old_d old_o q q' ds ds' os os' w v = (w.0 ∙ sym v.0, w.1 ∙ sym v.1, w.2 ∙ sym v.2)

-- the numbering that gives the caller's own refusal none of the numbers of form tells what is wrong with a number
abbrev malformed_of : ℕ → Malformed
malformed_of n = cond (eqb n 19) IsCut (cond (eqb n 20) IsTooLong IsNeedless)

module _ {R : Type 0} (fault : R) where
  abbrev untaken : Step ℕ → Result (Read ℕ) (BadNumber R)
  untaken (got v next) = Ok (record { got = v; next = next })
  untaken (stopped zero p) = Err (OutOfRange fault)
  untaken (stopped (suc m) p) = Err (BadForm (malformed_of (suc m)))

  taken_again : (at : ℕ) (t : Result (Read ℕ) (BadNumber R)) → RefusesOwn fault t → untaken (taken_as (λ _. 0) at t) ≡ t
  unfolding taken_as form_fault
  taken_again at (Ok t) o = refl
  taken_again at (Err (BadForm IsCut)) o = refl
  taken_again at (Err (BadForm IsTooLong)) o = refl
  taken_again at (Err (BadForm IsNeedless)) o = refl
  taken_again at (Err (OutOfRange r)) o = ap (λ (x : R). Err (OutOfRange x)) (sym o)

  -- of a number, whatever the caller's refusals are
  pub no_second_taken : (at : ℕ) (t t' : Result (Read ℕ) (BadNumber R)) → RefusesOwn fault t → RefusesOwn fault t'
      → taken_as (λ _. 0) at t ≡ taken_as (λ _. 0) at t' → t ≡ t'
  no_second_taken at t t' o o' e = sym (taken_again at t o) ∙ ap untaken e ∙ taken_again at t' o'

-- where the caller's refusals can be numbered and taken back, what all numberings tell says that none but its own is given
pub own_numbered : {R : Type 0} (f : R → ℕ) (back : ℕ → R) → ((r : R) → back (f r) ≡ r) → (bs : List ℕ) (at lo hi : ℕ) (fault : R)
    (t : Result (Read ℕ) (BadNumber R)) → ((g : R → ℕ) → taken_as g at t ≡ number bs at lo hi (g fault)) → RefusesOwn fault t
unfolding taken_as number form_fault
own_numbered f back again bs at lo hi fault (Ok t) e = tt
own_numbered f back again bs at lo hi fault (Err (BadForm m)) e = tt
own_numbered f back again bs at lo hi fault (Err (OutOfRange r)) e =
    sym (again r) ∙ ap back (same (read_number (drop at bs)) (e (λ _. 0)) (e f)) ∙ again fault
  where
    same_range : (b : Bool) (v next : ℕ) → stopped (f r) at ≡ cond b (stopped (f fault) at) (got v next) → f r ≡ f fault
    same_range true v next w = cc
    same_range false v next w = never (cc)

    same : (x : Number) → stopped 0 at ≡ ranged x at lo hi 0 → stopped (f r) at ≡ ranged x at lo hi (f fault) → f r ≡ f fault
    same (Value v n) z w = same_range (outside lo hi v) v (at + n) w
    same Cut z w = never (cc)
    same TooLong z w = never (cc)
    same Needless z w = never (cc)

abbrev unwritten : WrittenSaid → PlanWritten
unwritten s = unwritten_as s.verdict s
  where
    unwritten_as : Verdict → WrittenSaid → PlanWritten
    unwritten_as done s = Ok s.bytes
    unwritten_as refusal s = Err (refused s.number s.place)

written_again : (r : PlanWritten) → unwritten (written_said r) ≡ r
unfolding written_said
written_again (Ok n) = refl
written_again (Err f) = ap (λ (g : Fault). Err g) (fault_again f)

-- of the writer: an answer and the buffer
pub no_second_writing : (k : Link) (ds os old : List ℕ) (r r' : PlanWritten) (bs bs' : List ℕ)
    → gives (written_said r) bs ≡ write_gives k ds os old →
    gives (written_said r') bs' ≡ write_gives k ds os old → (r ≡ r') × (bs ≡ bs')
no_second_writing k ds os old r r' bs bs' = no_second_outcome written_said unwritten written_again
