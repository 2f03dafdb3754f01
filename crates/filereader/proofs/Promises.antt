-- What the file reader promises. Assumes nothing.
use mathlib.Core.Path.{◌≡◌, refl, sym, ap, ◌∙◌}
use mathlib.Core.List.{List, [], ◌∷◌}
use Prim.Native.Nat.{ℕ}
use lib.ListN.{length}
use denote.Ref.{Bor}
use Rattle.std.specs.Prelude.{Ok}
use Rattle.link.specs.Limits.{max_period, bad_period}
use Rattle.ground.specs.Judging.{outside}
use Rattle.planfile.specs.Number.{read_number, groups_read, onto, ending}
use Rattle.planfile.specs.Format.{tag}
use Rattle.planfile.specs.FileMeaning.{got, after, number}
use Rattle.planfile.specs.Answer.{taken_as}
use Rattle.planfile.specs.declared.Read.{Read}
use Rattle.planfile.proofs.NoSecond.{no_second_taken, own_numbered}
use Rattle.filereader.specs.Held.{TellsNumber, ReadsNumber}
use Rattle.filereader.specs.declared.FileReader.{FileReader}
use Rattle.filereader.specs.declared.NumberRead.{NumberRead}

-- no second reader is opened
pub no_second_reader : (s : Bor (List ℕ)) (r r' : FileReader) → (r.bytes ≡ s) × (r.at ≡ length tag) →
    (r'.bytes ≡ s) × (r'.at ≡ length tag) → r ≡ r'
no_second_reader s r r' w w' =
    let bytes = w.0 ∙ sym w'.0 in
    let place = w.1 ∙ sym w'.1 in
    λ i. record { bytes = bytes i; at = place i }

-- no second number, and no second reader after it: whatever the caller's refusals are
pub no_second_number : {R : Type 0} (d : FileReader) (low high : ℕ) (fault : R) (q q' : NumberRead R) → ReadsNumber d low high fault q →
    ReadsNumber d low high fault q' → q ≡ q'
no_second_number d low high fault q q' w w' =
    let v = w.1 (λ _. 0) in
    let v' = w'.1 (λ _. 0) in
    let same = no_second_taken fault d.at q.taken q'.taken w.0 w'.0 (v.0 ∙ sym v'.0) in
    let bytes = v.1 ∙ sym v'.1 in
    let place = v.2 ∙ ap (λ t. after d.at (taken_as (λ _. 0) d.at t)) same ∙ sym v'.2 in
    λ i. record { reader = record { bytes = bytes i; at = place i }; taken = same i }

-- where the caller's refusals can be numbered and taken back, what is told of a number is all that is read, so no second one is told
module _ {R : Type 0} (f : R → ℕ) (back : ℕ → R) (again : (r : R) → back (f r) ≡ r) where
  pub told_is_read : (d : FileReader) (low high : ℕ) (fault : R) (q : NumberRead R) → TellsNumber d low high fault q
      → ReadsNumber d low high fault q
  told_is_read d low high fault q w = (own_numbered f back again d.bytes.now d.at low high fault q.taken (λ g. (w g).0), w)

  pub no_second_told : (d : FileReader) (low high : ℕ) (fault : R) (q q' : NumberRead R) → TellsNumber d low high fault q →
      TellsNumber d low high fault q' → q ≡ q'
  no_second_told d low high fault q q' w w' =
      no_second_number d low high fault q q' (told_is_read d low high fault q w) (told_is_read d low high fault q' w')

-- "300 is AC 02": as a period, and the reader moved past its two bytes
three_hundred : (fault : ℕ) → number (0xAC ∷ 0x02 ∷ 0x01 ∷ []) 0 1 max_period fault ≡ got 300 2
unfolding number read_number groups_read onto ending outside
three_hundred fault = refl

abbrev read_300 : Read ℕ
read_300 = record { got = 300; next = 2 }

-- whatever is told there, it is 300, and the reader stands behind it
pub worked_300 : (d : FileReader) (q : NumberRead ℕ) → d.bytes.now ≡ 0xAC ∷ 0x02 ∷ 0x01 ∷ [] → d.at ≡ 0
    → TellsNumber d 1 max_period bad_period q → (q.taken ≡ Ok read_300) × (q.reader.at ≡ 2)
unfolding taken_as
worked_300 d q b e w =
    let v = w (λ _. 0) in
    let own = (told_is_read (λ n. n) (λ n. n) (λ _. refl) d 1 max_period bad_period q w).0 in
    let read : taken_as (λ _. 0) d.at q.taken ≡ got 300 2 = v.0 ∙ rw (b, e) (three_hundred 0) in
    (no_second_taken bad_period d.at q.taken (Ok read_300) own tt read, v.2 ∙ ap (after d.at) read)

pub worked_once : (d : FileReader) (q q' : NumberRead ℕ) → d.bytes.now ≡ 0xAC ∷ 0x02 ∷ 0x01 ∷ [] → d.at ≡ 0
    → TellsNumber d 1 max_period bad_period q → TellsNumber d 1 max_period bad_period q' → (q ≡ q') × (q'.taken ≡ Ok read_300)
worked_once d q q' b e w w' =
    (no_second_told (λ n. n) (λ n. n) (λ _. refl) d 1 max_period bad_period q q' w w', (worked_300 d q' b e w').0)
