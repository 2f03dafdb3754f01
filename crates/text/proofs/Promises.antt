-- What the reader of the text table promises, at its contract: on the text x it answers r, and the lent list, which was `old`, is left
-- as `new`. Assumes nothing.
use mathlib.Core.Path.{◌≡◌, refl, sym, ap, ◌∙◌}
use mathlib.Core.List.{List, ◌∷◌, ◌++◌}
use Prim.Native.Nat.{ℕ, ◌≤◌, ◌<◌}
use lib.ListN.{length, take}
use Rattle.std.specs.Prelude.{Result, Ok, Err}
use Rattle.ground.specs.Judging.{Judged, Fine, Fault, first}
use Rattle.ground.specs.Lent.{on_front}
use Rattle.ground.specs.Protocol.{Outcome, gives}
use Rattle.ground.specs.Refusals.{number_of}
use Rattle.ground.specs.declared.Fault.{Fault as Refused}
use Rattle.ground.specs.declared.Refusal.TheVariants.{LongText}
use Rattle.ground.proofs.Answers.{no_second_outcome}
use Rattle.ground.proofs.Bools.{never}
use Rattle.link.specs.Range.{GoodTable}
use Rattle.link.specs.declared.Link.{Link}
use Rattle.text.specs.declared.Table.{Table}
use Rattle.text.specs.declared.Text.{Text}
use Rattle.text.specs.Bytes.{newline}
use Rattle.text.specs.Faults.{rows_of, read_faults}
use Rattle.text.specs.Answer.{table, refusal, Said, refusing, said, table_link, reading}
use Rattle.text.specs.TextAnswer.{text_said, reading_text}
use Rattle.text.specs.Writing.{text_of}
use Rattle.text.specs.Meaning.{TableOf, RefusalOf, Means}
use Rattle.text.proofs.Saying.{unsaid, again, text_unsaid, text_again}
use Rattle.text.proofs.Answers.{fault_said, fine_said, long}
use Rattle.text.proofs.Texts.{text_accepted}
use Rattle.text.proofs.Taken.{taken_table}
use Rattle.text.proofs.Places.{in_text}
use Rattle.text.proofs.Lost.{lost}

-- "Show that no second answer satisfies it": no second answer of `read_table`, nor a second content of the list
pub no_second : (x old : List ℕ) (r s : Result Table Refused) (new other : List ℕ) → gives (said r) new ≡ reading x old
    → gives (said s) other ≡ reading x old → (r ≡ s) × (new ≡ other)
no_second x old r s new other = no_second_outcome said unsaid again

-- and of `read_text`
pub no_second_text : (x old : List ℕ) (r s : Result Text Refused) (new other : List ℕ) → gives (text_said r) new ≡ reading_text x old
    → gives (text_said s) other ≡ reading_text x old → (r ≡ s) × (new ≡ other)
no_second_text x old r s new other = no_second_outcome text_said text_unsaid text_again

-- Any bytes, of any length, end in a table, whose text they are, or in a refusal of 1 to 11 at a byte of the text or its end.
pub table_or_refusal : (x old : List ℕ) (r : Result Table Refused) (new : List ℕ) → gives (said r) new ≡ reading x old → Means x old r new
unfolding said
table_or_refusal x old r new e = go (first (read_faults x (length old))) refl
  where
    go : (j : Judged) → first (read_faults x (length old)) ≡ j → Means x old r new
    go Fine f =
        let t : Table = record { link = table_link x; rows = rows_of x } in
        let w = no_second x old r (Ok t) new _ e (fine_said x old f) in
        rw (w.0, w.1) (taken_table x old f)
    go (Fault n p) f = refused_so r (e ∙ sym (fault_said x old n p f))
      where
        refused_so : (r : Result Table Refused) → gives (said r) new ≡ gives (refusing n p) old → Means x old r new
        refused_so (Ok t) g =
            let v : table ≡ refusal = ap (λ (o : Outcome Said (List ℕ)). o.says.verdict) g in
            never cc
        refused_so (Err q) g =
            let m : number_of q.refusal ≡ n = ap (λ (o : Outcome Said (List ℕ)). o.says.number) g in
            let l : q.place ≡ p = ap (λ (o : Outcome Said (List ℕ)). o.says.place) g in
            let kept : new ≡ old = ap (λ (o : Outcome Said (List ℕ)). o.leaves) g in
            rw (m, l, kept) ((in_text x old (length old)).fault n p f)

-- Nothing else is accepted: an accepted text is the text of the good table that is answered.
pub accepted_is_the_text : (x old : List ℕ) (t : Table) (new : List ℕ) → gives (said (Ok t)) new ≡ reading x old
    → TableOf x old t.link t.rows new
accepted_is_the_text x old t new = table_or_refusal x old (Ok t) new

-- Each good table has a text, and it is accepted as that table wherever the lent list has room for its rows.
pub every_table_has_a_text : (k : Link) (ds old : List ℕ) (r : Result Table Refused) (new : List ℕ) → GoodTable k ds
    → length ds ≤ length old → gives (said r) new ≡ reading (text_of k ds) old
    → (r ≡ Ok (record { link = k; rows = length ds })) × (new ≡ on_front ds old)
unfolding said
every_table_has_a_text k ds old r new g h e =
    no_second (text_of k ds) old r (Ok (record { link = k; rows = length ds })) new _ e (text_accepted k ds old g h)

-- So each table has one text only: two texts that are answered by the same table are the same text.
pub one_text : (x y old lent : List ℕ) (t : Table) (new left : List ℕ) → gives (said (Ok t)) new ≡ reading x old
    → gives (said (Ok t)) left ≡ reading y lent → take t.rows new ≡ take t.rows left → x ≡ y
one_text x y old lent t new left e f s =
    (accepted_is_the_text x old t new e).text ∙ ap (text_of t.link) s ∙ sym (accepted_is_the_text y lent t left f).text

-- Two rows are never joined into one: a text that has lost one byte 10, wherever it stood, is refused, whatever lists are lent.
pub lost_newline : (a b old lent : List ℕ) (t : Table) (new : List ℕ) (s : Result Table Refused) (left : List ℕ)
    → gives (said (Ok t)) new ≡ reading (a ++ newline ∷ b) old → gives (said s) left ≡ reading (a ++ b) lent
    → (f : Refused) × (s ≡ Err f) × RefusalOf (a ++ b) lent (number_of f.refusal) f.place left
lost_newline a b old lent t new s left e f = go s (table_or_refusal (a ++ b) lent s left f)
  where
    x : TableOf (a ++ newline ∷ b) old t.link t.rows new
    x = accepted_is_the_text (a ++ newline ∷ b) old t new e

    go : (s : Result Table Refused) → Means (a ++ b) lent s left
        → (f : Refused) × (s ≡ Err f) × RefusalOf (a ++ b) lent (number_of f.refusal) f.place left
    go (Ok u) y = absurd (lost _ _ _ _ x.good y.good a b (sym x.text) (sym y.text))
    go (Err q) y = (q, refl, y)

-- "A text above 1,024 bytes is refused with 1", at 0, whatever its bytes.
pub long_text : (x old : List ℕ) (r : Result Table Refused) (new : List ℕ) → 1024 < length x → gives (said r) new ≡ reading x old
    → (r ≡ Err (record { refusal = LongText; place = 0 })) × (new ≡ old)
unfolding said
long_text x old r new h e = no_second x old r (Err (record { refusal = LongText; place = 0 })) new _ e (long x old h)
