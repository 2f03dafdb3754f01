-- The lines from the start, one by one: where the code stands behind n rows, and what it may answer there. Assumes nothing.
use mathlib.Core.Path.{◌≡◌, refl, sym, ap, ◌∙◌}
use mathlib.Core.Bool.{Bool, true, false, not, cond}
use mathlib.Core.List.{List, []}
use mathlib.Core.Logic.{⊎_elim}
use Prim.Native.Nat.{ℕ, zero, suc, ◌+◌, ◌≤◌, ◌<◌}
use native.Mathlib.Numerals.{add-one}
use native.Mathlib.Omega.{arith}
use lib.ListN.{length, take, drop, set, length-drop, length-set}
use borrow.Author.Count.{below_more}
use borrow.Author.Tests.{ltb-true, not-false}
use Rattle.ground.specs.Judging.{Judged, Fine, Fault, first}
use Rattle.ground.specs.Protocol.{unless}
use Rattle.ground.proofs.Answers.{refused, let_through}
use Rattle.ground.proofs.Bools.{clash, lt_or_ge, never}
use Rattle.ground.proofs.Minimum.{least_is, least_at}
use Rattle.ground.proofs.Faults.{passed, fine, front_hit, front_pass, front_fine}
use Rattle.link.specs.Limits.{max_rows}
use Rattle.link.specs.declared.Link.{Link}
use Rattle.text.specs.Limits.{cut_line}
use Rattle.text.specs.Bytes.{newline, seek}
use Rattle.text.specs.Decimal.{value}
use Rattle.text.specs.Lines.{next_line, begin, ended_from, line, ended}
use Rattle.text.specs.Faults.{is_last, own_faults, line_faults, lines_faults, rows_of, text_faults, end_of}
use Rattle.text.specs.Answer.{table_link, delays_of}
use Rattle.text.specs.TextAnswer.{whole_text, refusing_text}
use Rattle.text.specs.Steps.{faults_from, second_says, head_says, line_says, judging, Kept}
use Rattle.text.specs.Steps.{HeadSaid, Rows, WrongHead, LineSaid, More, Last, Wrong}
use Rattle.text.proofs.GoodLines.{row_parts}
use Rattle.text.proofs.Values.{one_more_kept}

-- what a line behind line two says: its faults j, whether it is the last, its value and the place behind it
unfoldable saying : Judged → Bool → ℕ → ℕ → LineSaid
saying j b v next = unless Wrong j (cond b (Last next) (More v next))

wrong_told : (j : Judged) (b : Bool) (v next n p : ℕ) → Wrong n p ≡ saying j b v next → j ≡ Fault n p
unfolding saying
wrong_told Fine true v next n p e = never cc
wrong_told Fine false v next n p e = never cc
wrong_told (Fault m q) b v next n p e = cc

last_told : (j : Judged) (b : Bool) (v next m : ℕ) → Last m ≡ saying j b v next → (j ≡ Fine) × (b ≡ true) × (m ≡ next)
unfolding saying
last_told Fine true v next m e = (refl, refl, cc)
last_told Fine false v next m e = never cc
last_told (Fault n q) b v next m e = never cc

more_told : (j : Judged) (b : Bool) (v next d m : ℕ) → More d m ≡ saying j b v next → (j ≡ Fine) × (b ≡ false) × (m ≡ next) × (d ≡ v)
unfolding saying
more_told Fine true v next d m e = never cc
more_told Fine false v next d m e = (refl, refl, cc, cc)
more_told (Fault n q) b v next d m e = never cc

-- and the first two lines
head_told : (j : Judged) (k : Link) (at n p : ℕ) → WrongHead n p ≡ unless WrongHead j (Rows k at) → j ≡ Fault n p
head_told Fine k at n p e = never cc
head_told (Fault m q) k at n p e = cc

module _ (x : List ℕ) where
  -- a fault of an early line stands
  pub stays : (k m n p : ℕ) → k ≤ m → first (lines_faults x k) ≡ Fault n p → first (lines_faults x m) ≡ Fault n p
  unfolding lines_faults
  stays k zero n p l e = let z : k ≡ 0 = omega arith in rw z at e
  stays k (suc m) n p l e =
      ⊎_elim (λ h. sym (front_hit (lines_faults x m) (line_faults x m) n p (stays k m n p (omega arith) e)))
      (λ h. let z : k ≡ suc m = omega arith in rw z at e) (lt_or_ge k (suc m))

  -- a line that is not cut is a whole number of bytes
  pub ended_low : (k : ℕ) → ended x k ≡ true → begin x (suc k) ≤ length x
  unfolding begin next_line ended_from
  ended_low k e = omega (arith, ltb-true (seek newline (drop (begin x k) x)) (length (drop (begin x k) x)) e, length-drop (begin x k) x)

  -- nothing is wrong with line k
  pub not_cut : (k : ℕ) → first (line_faults x k) ≡ Fine → ended x k ≡ true
  unfolding line_faults
  not_cut k e = not-false _ (passed (not (ended x k)) cut_line (begin x k) _ e).0

  pub own_fine : (k : ℕ) → first (line_faults x k) ≡ Fine → first (own_faults k (line x k) (begin x k)) ≡ Fine
  unfolding line_faults
  own_fine k e = (passed (not (ended x k)) cut_line (begin x k) _ e).1

  -- a line that is right and not the last is a row among the first 64
  row_low : (n : ℕ) → first (line_faults x (suc (suc n))) ≡ Fine → is_last (line x (suc (suc n))) ≡ false → n < max_rows
  unfolding own_faults
  row_low n e f = (row_parts n _ _ (rw f at (own_fine (suc (suc n)) e))).1

  -- a fault of the first k lines, none of which is behind the last
  stopped : (k n p : ℕ) (kept : List ℕ) → k ≤ suc (suc (suc (rows_of x))) → first (lines_faults x k) ≡ Fault n p
      → Kept x (refusing_text n p) kept
  unfolding judging text_faults
  stopped k n p kept l e =
      let t = stays k (suc (suc (suc (rows_of x)))) n p l e in
      record { answer = refused refusing_text _ t; delays = λ h. never (cc (sym t ∙ h)) }

  -- line one decides
  line_one : (j : Judged) → first (faults_from x 0 0) ≡ j → first (lines_faults x 1) ≡ j
  unfolding lines_faults line_faults faults_from begin
  line_one j e = sym (front_pass [] (line_faults x 0) j (sym fine) (sym e))

  pub head_wrong : (n p : ℕ) → first (faults_from x 0 0) ≡ Fault n p → WrongHead n p ≡ head_says x
  unfolding head_says
  head_wrong n p e = refused WrongHead _ (stays 1 2 n p (omega arith) (line_one (Fault n p) e))

  -- or line two does
  pub head_second : (at : ℕ) (r : HeadSaid) → first (faults_from x 0 0) ≡ Fine → at ≡ next_line x 0 → r ≡ second_says x at → r ≡ head_says x
  unfolding head_says second_says lines_faults line_faults faults_from begin
  head_second at r e f g =
      let h = front_pass (lines_faults x 1) (line_faults x 1) _ (line_one Fine e) refl in
      rw (← h) (rw f at g)

  pub head_broken : (n p : ℕ) (kept : List ℕ) → WrongHead n p ≡ head_says x → Kept x (refusing_text n p) kept
  unfolding head_says
  head_broken n p kept e = stopped 2 n p kept (omega arith) (head_told (first (lines_faults x 2)) (table_link x) (begin x 2) n p e)

-- The code stands behind n rows, at the line that begins at `at`: the lines before it are right, and none of them is the last; the
-- delays of the rows are kept.
pub record Walked (x : List ℕ) (kept : List ℕ) (at n : ℕ) : Type 0 where
  pub place : at ≡ begin x (suc (suc n))
  pub inside : at ≤ length x
  pub right : first (lines_faults x (suc (suc n))) ≡ Fine
  pub rows : (i : ℕ) → i < n → is_last (line x (suc (suc i))) ≡ false
  pub few : n ≤ max_rows
  pub room : length kept ≡ max_rows
  pub delays : take n kept ≡ delays_of x n

module _ (x : List ℕ) (k : Link) (from : ℕ) (e : Rows k from ≡ head_says x) where
  headed : (first (lines_faults x 2) ≡ Fine) × (Rows k from ≡ Rows (table_link x) (begin x 2))
  unfolding head_says
  headed = let_through WrongHead (first (lines_faults x 2)) (λ n p f. never cc) e

  pub link_there : k ≡ table_link x
  link_there = cc headed.1

  pub start : (kept : List ℕ) → length kept ≡ max_rows → Walked x kept from 0
  unfolding lines_faults delays_of
  start kept room =
      let at : from ≡ begin x 2 = cc headed.1 in
      record {
        place = at;
        inside = rw at (ended_low x 1 (not_cut x 1 (front_fine (lines_faults x 1) (line_faults x 1) headed.0).1));
        right = headed.0;
        rows = λ i l. absurd (omega arith);
        few = omega arith;
        room = room;
        delays = refl;
      }

module _ (x kept : List ℕ) (at n : ℕ) (w : Walked x kept at n) where
  says_line : (r : LineSaid) → r ≡ line_says x at n
      → r ≡ saying (first (line_faults x (suc (suc n)))) (is_last (line x (suc (suc n)))) (value (line x (suc (suc n))))
      (begin x (suc (suc (suc n))))
  unfolding saying line_says line_faults faults_from begin
  says_line r e = e ∙ ap (λ (a : ℕ). line_says x a n) w.place

  -- no line before this one is the last
  low : n ≤ rows_of x
  unfolding rows_of
  low = ⊎_elim (λ h. clash ((least_is (λ i. is_last (line x (suc (suc i)))) (suc max_rows)).here (omega (arith, w.few)))
      (w.rows (rows_of x) h)) (λ h. h) (lt_or_ge (rows_of x) n)

  pub broken : (m p : ℕ) → Wrong m p ≡ line_says x at n → Kept x (refusing_text m p) kept
  unfolding lines_faults
  broken m p e =
      let f = wrong_told _ _ _ _ m p (says_line _ e) in
      stopped x (suc (suc (suc n))) m p kept (omega (arith, low)) (sym (front_pass _ (line_faults x (suc (suc n))) _ w.right (sym f)))

  module _ (d m : ℕ) (e : More d m ≡ line_says x at n) where
    row : (first (line_faults x (suc (suc n))) ≡ Fine) × (is_last (line x (suc (suc n))) ≡ false) × (m ≡ begin x (suc (suc (suc n))))
        × (d ≡ value (line x (suc (suc n))))
    row = more_told _ _ _ _ d m (says_line _ e)

    -- there is room for its delay
    pub row_few : n < max_rows
    row_few = row_low x n row.0 row.1

    pub next : Walked x (set kept n d) m (n + 1)
    unfolding lines_faults
    next =
        rw add-one
        (record {
          place = row.2;
          inside = rw row.2 (ended_low x (suc (suc n)) (not_cut x (suc (suc n)) row.0));
          right = sym (front_pass _ (line_faults x (suc (suc n))) Fine w.right (sym row.0));
          rows = λ i l. below_more _ n w.rows row.1 i (omega arith);
          few = row_few;
          room = length-set kept n d ∙ w.room;
          delays = one_more_kept x kept n d (omega (arith, w.room, row_few)) w.delays row.3;
        })

  pub whole : (k : Link) (m : ℕ) → k ≡ table_link x → Last m ≡ line_says x at n → Kept x (whole_text k n m) kept
  unfolding lines_faults rows_of judging text_faults end_of
  whole k m z e =
      let f = last_told _ _ _ _ m (says_line _ e) in
      let r : rows_of x ≡ n = least_at _ (suc max_rows) n (omega (arith, w.few)) w.rows (λ _. f.1) in
      let g = sym (front_pass _ (line_faults x (suc (suc n))) Fine w.right (sym f.0)) in
      record { answer = rw (r, g, z, f.2); delays = λ _. rw r w.delays }
