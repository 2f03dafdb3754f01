-- The header, and the rest from where a reader stands after it: what each gives case by case, and that one after the other they are
-- the whole file. Assumes nothing.
use mathlib.Core.Path.{◌≡◌, refl, sym, ap, ◌∙◌, subst}
use mathlib.Core.Bool.{Bool, true, false, cond}
use mathlib.Core.List.{List, []}
use Prim.Native.Nat.{ℕ}
use Rattle.ground.proofs.Bools.{never}
use Rattle.std.specs.Prelude.{Result, Ok, Err}
use Rattle.ground.specs.Refusals.{number_of}
use Rattle.ground.specs.declared.Fault.{Fault}
use Rattle.planfile.specs.Bytes.{Bytes}
use Rattle.planfile.specs.Format.{tag}
use Rattle.planfile.specs.FileMeaning.{Step, got, stopped, after, Head, header, tag_fault, tagged, rows, Meaning, refused, means}
use Rattle.ground.specs.Words.{begins}
use Rattle.planfile.specs.FileMeaning.{closing, rest, body, meaning}
use Rattle.planfile.specs.Answer.{taken_as, place_after, HeaderRead, headed, HeaderRanges, InRange, PlanRead, IsFileOf}
use Rattle.planfile.specs.Answer.{refuses, delivered, rest_gives, ReadGives, Gives, GivesRest, read_gives, read_said}
use Rattle.planfile.specs.declared.Read.{Read}
use Rattle.planfile.specs.declared.Plan.{Plan}
use Rattle.planfile.specs.declared.BadNumber.{BadNumber}
use Rattle.planfile.proofs.Accepting.{headed as header_read}
use Rattle.planfile.proofs.Promises.{is_file_of}

-- the place after a number and after a header, as a reader stands there
pub after_taken : {R : Type 0} (f : R → ℕ) (at : ℕ) (t : Result (Read ℕ) (BadNumber R)) → place_after at t ≡ after at (taken_as f at t)
unfolding place_after taken_as
after_taken f at (Ok t) = refl
after_taken f at (Err b) = refl

pub after_headed : (at : ℕ) (h : HeaderRead) → place_after at h ≡ after at (headed h)
unfolding place_after headed
after_headed at (Ok h) = refl
after_headed at (Err f) = refl

module _ (bs : List ℕ) (at : ℕ) where
  pub no_tag : begins tag bs ≡ false → tagged bs at ≡ stopped (tag_fault bs) 0
  no_tag e = rw e

  pub with_tag : begins tag bs ≡ true → tagged bs at ≡ header bs at
  with_tag e = rw e

  -- a header that was read is in its ranges
  pub in_range : (h : HeaderRead) → headed h ≡ tagged bs at → InRange h
  unfolding headed
  in_range (Err f) e = tt
  in_range (Ok h) e = go (begins tag bs) e
    where
      go : (b : Bool) → got (record { link = h.got.link; rows = h.got.rows }) h.next ≡ cond b (header bs at) (stopped (tag_fault bs) 0)
          → HeaderRanges h
      go true f = let r = header_read bs at (record { link = h.got.link; rows = h.got.rows }) h.next (sym f) in (r.period.low, r.rows.high)
      go false f = never (cc)

  module _ (h : HeaderRead) (old_d old_o : List ℕ) where
    pub head_refused : (f : Fault) → h ≡ Err f → rest_gives bs at h old_d old_o ≡ refuses (number_of f.refusal) f.place old_d old_o
    unfolding headed delivered rest_gives
    head_refused f e = ap (λ (x : HeaderRead). rest_gives bs at x old_d old_o) e

    module _ (w : Read Plan) (e : h ≡ Ok w) where
      pub bad_rows : (m p : ℕ) → rows bs w.got.link.period w.got.rows [] [] at ≡ stopped m p
          → rest_gives bs at h old_d old_o ≡ refuses m p old_d old_o
      unfolding headed delivered rest_gives
      bad_rows m p f = rw (e, f)

      pub all_rows : (ds os : List ℕ) (end : ℕ)
          → rows bs w.got.link.period w.got.rows [] [] at ≡ got (record { delays = ds; offsets = os }) end
          → rest_gives bs at h old_d old_o ≡ delivered (closing bs w.got.link ds os end) old_d old_o
      unfolding headed rest_gives
      all_rows ds os end f = rw (e, f)

-- a reader's answer to a header that may be refused by its own refusals, as one answer
abbrev pub flat : Result PlanRead Fault → PlanRead
flat (Ok r) = r
flat (Err f) = Err f

-- the rest, from where the reader stands after the header, is what the file means
module _ (bs old_d old_o : List ℕ) where
  goes_on : (at : ℕ) (s : Step Head) → means s (λ h _. rest bs h (after at s)) ≡ means s (λ h next. rest bs h next)
  goes_on at (got h next) = refl
  goes_on at (stopped n p) = refl

  whole : (h : HeaderRead) → headed h ≡ tagged bs 4 → rest_gives bs (after 4 (headed h)) h old_d old_o ≡ read_gives bs old_d old_o
  unfolding rest_gives read_gives meaning body
  whole h e =
      ap (λ (s : Step Head). delivered (means s (λ x _. rest bs x (after 4 s))) old_d old_o) e
      ∙ ap (λ (m : Meaning). delivered m old_d old_o) (goes_on 4 (tagged bs 4) ∙ go (begins tag bs))
    where
      go : (b : Bool) → means (cond b (header bs 4) (stopped (tag_fault bs) 0)) (λ x next. rest bs x next)
          ≡ cond b (body bs 4) (refused (tag_fault bs) 0)
      go true = refl
      go false = refl

  pub as_read : (h : HeaderRead) (m : ℕ) (r : PlanRead) (ds os : List ℕ) → headed h ≡ tagged bs 4 → m ≡ after 4 (headed h) → Bytes bs →
      Gives (rest_gives bs m h old_d old_o) r ds os → Gives (read_gives bs old_d old_o) r ds os × IsFileOf r bs ds os
  as_read h m r ds os e place bytes given =
      let all = subst (λ (g : ReadGives). Gives g r ds os) (ap (λ (n : ℕ). rest_gives bs n h old_d old_o) place ∙ whole h e) given in
      (all, is_file_of bs old_d old_o ds os r bytes all)

  -- what is handed on is the answer, and else what is read
  pub handed : (h : HeaderRead) (at : ℕ) (q : Result PlanRead Fault) (ds os : List ℕ) → GivesRest bs at h old_d old_o q ds os
      → Gives (rest_gives bs at h old_d old_o) (flat q) ds os
  unfolding read_said
  handed (Ok h) at q ds os w = rw w.1 w.2
  handed (Err f) at q ds os w = rw (w.0, w.1, w.2) (sym (head_refused bs at (Err f) old_d old_o f refl))

  pub as_handed : (h : HeaderRead) (m : ℕ) (q : Result PlanRead Fault) (ds os : List ℕ) → headed h ≡ tagged bs 4 → m ≡ after 4 (headed h)
      → Bytes bs → GivesRest bs m h old_d old_o q ds os → Gives (read_gives bs old_d old_o) (flat q) ds os × IsFileOf (flat q) bs ds os
  as_handed h m q ds os e place bytes given = as_read h m (flat q) ds os e place bytes (handed h m q ds os given)
