-- A text among joined ones that has lost one byte 10, or is refused alone, stops the run. Assumes nothing.
use mathlib.Core.Path.{◌≡◌, refl, sym, ap, ◌∙◌}
use mathlib.Core.Bool.{Bool, true, false}
use mathlib.Core.List.{List, [], ◌∷◌, ◌++◌, append_assoc}
use Prim.Native.Nat.{ℕ, ◌≤◌, ◌<◌, ◌+◌, ◌-◌}
use native.Mathlib.Omega.{arith}
use lib.Dec.{ltb, leb}
use lib.ListN.{length, get_or, take, drop, take-append-drop, length-append}
use lib.Seq.{take_all, take-append-add}
use borrow.Author.Tests.{leb-true, le-ltb, ne_eqb}
use Rattle.ground.specs.Judging.{Judged, Fine, Fault, first, and_then}
use Rattle.ground.specs.Protocol.{Outcome, gives, keeping, unless}
use Rattle.ground.proofs.Answers.{Told, stopped, through, told}
use Rattle.ground.proofs.Faults.{pass, front_hit, front_pass, all_numbers, number_of}
use Rattle.ground.proofs.Bools.{never}
use Rattle.link.specs.Range.{GoodTable}
use Rattle.link.specs.declared.Link.{Link}
use Rattle.text.specs.Limits.{max_text, long_text, cut_line}
use Rattle.text.specs.Bytes.{newline}
use Rattle.text.specs.Faults.{text_faults, rows_of, end_of, late_faults, read_faults}
use Rattle.text.specs.Answer.{table, refusal, Said, refusing, accepted, reading, table_link, delays_of}
use Rattle.text.specs.Writing.{glue, text_of}
use Rattle.text.proofs.Taken.{begins_with_its_text}
use Rattle.text.proofs.Behind.{fault_stands}
use Rattle.text.proofs.Lost.{lost_in_front}
use Rattle.joined.specs.Texts.{begin_of, split_cut, fault_from}
use Rattle.joined.specs.Meaning.{joined_of, Accepted, AllAccepted}
use Rattle.joined.proofs.Steps.{fine_back}
use Rattle.joined.proofs.Joining.{text_long, table_text, behind_all}

-- what is joined does not begin with byte 10
no_newline : (ts : List (List ℕ)) → AllAccepted ts → (r : List ℕ) → joined_of ts ≡ newline ∷ r → ⊥
unfolding joined_of glue
no_newline [] all r e = omega (arith, ap length e)
no_newline (y ∷ ys) all r e =
    let w = table_text y (all 0 (omega arith)) in
    omega (arith, ap (λ (l : List ℕ). get_or l 0 0) (sym e ∙ ap (λ (l : List ℕ). l ++ joined_of ys) w.text))

-- bytes that are read as a text begin with the text of a table
begins_so : (w : List ℕ) → first (text_faults (take max_text w)) ≡ Fine
    → (k : Link) × (ds : List ℕ) × (rest : List ℕ) × GoodTable k ds × (w ≡ text_of k ds ++ rest)
begins_so w e =
    let v = take max_text w in
    let b = begins_with_its_text v e in
    let behind = drop (end_of v) v ++ drop max_text w in (
      table_link v,
      delays_of v (rows_of v),
      behind,
      b.good,
      sym (take-append-drop max_text w) ∙ ap (λ (l : List ℕ). l ++ drop max_text w) (sym (take-append-drop (end_of v) v))
          ∙ append_assoc (take (end_of v) v) (drop (end_of v) v) (drop max_text w) ∙ ap (λ (l : List ℕ). l ++ behind) b.text,
    )

-- a text with one byte 10 lost, before joined texts, is never read as one
never_read : (a b : List ℕ) (ts : List (List ℕ)) → Accepted (a ++ newline ∷ b) → AllAccepted ts
    → first (text_faults (take max_text ((a ++ b) ++ joined_of ts))) ≡ Fine → ⊥
never_read a b ts y all e =
    let w = table_text (a ++ newline ∷ b) y in
    let s = begins_so ((a ++ b) ++ joined_of ts) e in
    lost_in_front w.link s.0 w.delays s.1 w.good s.3 a b (sym w.text) (joined_of ts) s.2 (no_newline ts all) s.4

-- the late faults of a text are 10 and 11
late_high : (z : List ℕ) (room n p : ℕ) → n < 10 → first (late_faults z room) ≡ Fault n p → ⊥
unfolding late_faults all_numbers
late_high z room n p low e = omega (arith, leb-true 10 n (number_of (λ m. leb 10 m) (late_faults z room) n p refl e))

-- a text with a byte 10 lost is not empty
pub some_byte : (a b : List ℕ) → Accepted (a ++ newline ∷ b) → 1 ≤ length (a ++ b)
some_byte a b y =
    let w = table_text (a ++ newline ∷ b) y in
    omega (arith, ap length w.text, length-append a (newline ∷ b), length-append a b, text_long w.link w.delays)

-- a short text that is refused alone with a number below 10 has that fault in its lines
own_lines : (z old : List ℕ) (n p : ℕ) (new : List ℕ) → length z ≤ max_text → n < 10 → gives (refusing n p) new ≡ reading z old
    → first (text_faults z) ≡ Fault n p
unfolding reading read_faults accepted
own_lines z old n p new short low e = judged (told (keeping refusing old) (first (read_faults z (length old))) e)
  where
    lines : (j : Judged) → first (text_faults z) ≡ j → first (and_then (text_faults z) (late_faults z (length old))) ≡ Fault n p
        → j ≡ Fault n p
    lines Fine f g = absurd (late_high z (length old) n p low (front_pass _ _ _ f refl ∙ g))
    lines (Fault m q) f g = front_hit _ _ m q f ∙ g

    judged : Told (keeping refusing old) (first (read_faults z (length old))) (accepted z old) (gives (refusing n p) new)
        → first (text_faults z) ≡ Fault n p
    judged (stopped m q f g) =
        lines (first (text_faults z)) refl
        (pass _ _ long_text 0 (le-ltb max_text (length z) short) refl ∙ f
        ∙ ap (λ (o : Outcome Said (List ℕ)). Fault o.says.number o.says.place) (sym g))
    judged (through f g) = let v : refusal ≡ table = ap (λ (o : Outcome Said (List ℕ)). o.says.verdict) g in never cc

-- another fault than 3 is not split
not_split : (b : Bool) (n p : ℕ) → (n ≡ cut_line → ⊥) → split_cut Fault b n p ≡ Fault n p
not_split true n p other = rw (ne_eqb n cut_line other)
not_split false n p other = refl

-- the first fault of the text behind joined ones
module _ (ts : List (List ℕ)) (z : List ℕ) (all : AllAccepted ts) where
  abbrev x : List ℕ
  x = joined_of ts ++ z

  fault_behind : fault_from x (begin_of x (length ts))
      ≡ unless (split_cut Fault (ltb max_text (length z))) (first (text_faults (take max_text z))) Fine
  unfolding fault_from
  fault_behind = rw (behind_all ts z all)

  -- a text that is refused alone
  pub own_fault : (old : List ℕ) (n p : ℕ) (new : List ℕ) → length z ≤ max_text → n < 10
      → gives (refusing n p) new ≡ reading z old → fault_from x (begin_of x (length ts)) ≡ Fault n p
  own_fault old n p new short low e =
      let g = own_lines z old n p new short low e in
      fault_behind ∙ rw (le-ltb max_text (length z) short, take_all max_text z short, g)

-- the same with anything behind it, where its fault is in a line that ends
pub fault_before : (ts : List (List ℕ)) (y z : List ℕ) (all : AllAccepted ts) (old : List ℕ) (n p : ℕ) (new : List ℕ)
    → length y ≤ max_text → n < 10 → (n ≡ cut_line → ⊥) → gives (refusing n p) new ≡ reading y old
    → fault_from (joined_of ts ++ (y ++ z)) (begin_of (joined_of ts ++ (y ++ z)) (length ts)) ≡ Fault n p
fault_before ts y z all old n p new short low other e =
    let m = max_text - length y in
    let l : length y + m ≡ max_text = omega arith in
    let w : take max_text (y ++ z) ≡ y ++ take m z = ap (λ (k : ℕ). take k (y ++ z)) (sym l) ∙ take-append-add y z m in
    let f = fault_stands y (take m z) n p other (own_lines y old n p new short low e) in
    fault_behind ts (y ++ z) all ∙ rw (w, f) (not_split (ltb max_text (length (y ++ z))) n p other)

-- the first fault behind the texts ts where the next one has lost a byte 10 and others follow
abbrev pub damaged_fault : List (List ℕ) → List (List ℕ) → List ℕ → List ℕ → Judged
damaged_fault ts after a b =
    let x = joined_of ts ++ ((a ++ b) ++ joined_of after) in
    fault_from x (begin_of x (length ts))

-- a text that has lost a byte 10, with joined texts behind it
pub lost_fault : (ts after : List (List ℕ)) (a b : List ℕ) → AllAccepted ts → Accepted (a ++ newline ∷ b) → AllAccepted after
    → (n : ℕ) × (p : ℕ) × (damaged_fault ts after a b ≡ Fault n p)
lost_fault ts after a b all y rest = go (fault_from x at) refl
  where
    x : List ℕ
    x = joined_of ts ++ ((a ++ b) ++ joined_of after)

    at : ℕ
    at = begin_of x (length ts)

    go : (j : Judged) → fault_from x at ≡ j → (n : ℕ) × (p : ℕ) × (fault_from x at ≡ Fault n p)
    go Fine e =
        absurd (never_read a b after y rest
        (ap (λ (w : List ℕ). first (text_faults (take max_text w))) (sym (behind_all ts ((a ++ b) ++ joined_of after) all))
        ∙ fine_back (joined_of ts ++ ((a ++ b) ++ joined_of after)) _ e))
    go (Fault n p) e = (n, p, e)
