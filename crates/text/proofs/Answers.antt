-- How the code shows what the readers answer: each fault in its turn, or the table. Assumes nothing.
use mathlib.Core.Path.{◌≡◌, refl, sym, ap, ◌∙◌}
use mathlib.Core.List.{List}
use Prim.Native.Nat.{ℕ, ◌≤◌, ◌<◌}
use lib.ListN.{length, take}
use borrow.Author.Tests.{lt-ltb, le-ltb}
use Rattle.ground.specs.Judging.{Judged, Fine, Fault, first}
use Rattle.ground.specs.Lent.{on_front}
use Rattle.ground.specs.Protocol.{gives, keeping}
use Rattle.ground.proofs.Answers.{refused, goes_on, Told, stopped, through, told, let_through}
use Rattle.ground.proofs.Bools.{never}
use Rattle.ground.proofs.Faults.{hit, pass, fine, front_hit, front_pass}
use Rattle.link.specs.Limits.{bad_length}
use Rattle.link.specs.declared.Link.{Link}
use Rattle.text.specs.Limits.{max_text, long_text, bytes_after}
use Rattle.text.specs.Faults.{rows_of, end_of, text_faults, late_faults, read_faults}
use Rattle.text.specs.Answer.{tabling, refusing, table_link, delays_of, accepted, reading}
use Rattle.text.specs.TextAnswer.{TextSaid, whole_text, refusing_text, wholly, reading_text}
use Rattle.text.specs.Steps.{judging, Kept}

module _ (x old : List ℕ) where
  pub fault_said : (n p : ℕ) → first (read_faults x (length old)) ≡ Fault n p → gives (refusing n p) old ≡ reading x old
  unfolding reading
  fault_said n p e = refused (keeping refusing old) (accepted x old) e

  pub fine_said : first (read_faults x (length old)) ≡ Fine
      → gives (tabling (table_link x) (rows_of x)) (on_front (delays_of x (rows_of x)) old) ≡ reading x old
  unfolding reading accepted
  fine_said e = goes_on (keeping refusing old) {o = accepted x old} e refl

  pub long : max_text < length x → gives (refusing long_text 0) old ≡ reading x old
  unfolding read_faults
  long h = fault_said long_text 0 (sym (hit _ _ _ _ (lt-ltb _ _ h)))

-- what `read_lines` tells of a text that is refused
module _ (x kept : List ℕ) (n p : ℕ) (w : Kept x (refusing_text n p) kept) where
  broken_told : first (text_faults x) ≡ Fault n p
  unfolding judging
  broken_told = go (told refusing_text (first (text_faults x)) w.answer)
    where
      go : Told refusing_text (first (text_faults x)) (whole_text (table_link x) (rows_of x) (end_of x)) (refusing_text n p)
          → first (text_faults x) ≡ Fault n p
      go (stopped m q f g) = f ∙ ap (λ (s : TextSaid). Fault s.number s.place) (sym g)
      go (through f g) = never (cc (ap (λ (s : TextSaid). s.verdict) g))

  pub broken : (old : List ℕ) → length x ≤ max_text → gives (refusing n p) old ≡ reading x old
  unfolding read_faults
  broken old h = fault_said x old n p (sym (pass _ _ long_text 0 (le-ltb _ _ h) (front_hit _ _ n p broken_told)))

  pub text_broken : (old : List ℕ) → gives (refusing_text n p) old ≡ reading_text x old
  unfolding reading_text
  text_broken old = refused (keeping refusing_text old) (wholly x old) broken_told

-- and of a whole text
module _ (x kept : List ℕ) (k : Link) (rows end : ℕ) (w : Kept x (whole_text k rows end) kept) where
  whole_told : (first (text_faults x) ≡ Fine) × (k ≡ table_link x) × (rows ≡ rows_of x) × (end ≡ end_of x)
  unfolding judging
  whole_told =
      let t = let_through refusing_text (first (text_faults x)) (λ n p f. never (cc (ap (λ (s : TextSaid). s.verdict) f))) w.answer in (
        t.0,
        ap (λ (s : TextSaid). s.link) t.1,
        ap (λ (s : TextSaid). s.rows) t.1,
        ap (λ (s : TextSaid). s.end) t.1,
      )

  -- the delays, copied to the front of the list
  copied : (old new : List ℕ) → new ≡ on_front (take rows kept) old → new ≡ on_front (delays_of x (rows_of x)) old
  copied old new e =
      let t = whole_told in
      e ∙ ap (λ (ds : List ℕ). on_front ds old) (ap (λ (n : ℕ). take n kept) t.2 ∙ w.delays t.0)

  pub text_whole : (old new : List ℕ) → new ≡ on_front (take rows kept) old → gives (whole_text k rows end) new ≡ reading_text x old
  unfolding reading_text wholly
  text_whole old new e =
      let t = whole_told in
      goes_on (keeping refusing_text old) {o = wholly x old} t.0 (rw (copied old new e, t.1, t.2, t.3))

  module _ (old : List ℕ) (h : length x ≤ max_text) where
    late : {j : Judged} → j ≡ first (late_faults x (length old)) → first (read_faults x (length old)) ≡ j
    unfolding read_faults
    late {j} e = sym (pass _ _ long_text 0 (le-ltb _ _ h) (front_pass _ _ j whole_told.0 e))

    pub after : end < length x → gives (refusing bytes_after end) old ≡ reading x old
    unfolding late_faults
    after l =
        let f = whole_told.3 in
        fault_said x old bytes_after end (late (rw f (hit _ _ bytes_after (end_of x) (lt-ltb _ _ (rw f at l)))))

    module _ (l : length x ≤ end) where
      pub short : length old < rows → gives (refusing bad_length 0) old ≡ reading x old
      unfolding late_faults
      short m =
          let t = whole_told in
          fault_said x old bad_length 0 (late (pass _ _ bytes_after _ (le-ltb _ _ (rw t.3 at l))
          (hit _ _ bad_length 0 (lt-ltb _ _ (rw t.2 at m)))))

      pub good : rows ≤ length old → (new : List ℕ) → new ≡ on_front (take rows kept) old → gives (tabling k rows) new ≡ reading x old
      unfolding reading late_faults accepted
      good m new e =
          let t = whole_told in
          goes_on (keeping refusing old) {o = accepted x old} (late (pass _ _ bytes_after _ (le-ltb _ _ (rw t.3 at l))
          (pass _ _ bad_length 0 (le-ltb _ _ (rw t.2 at m)) fine))) (rw (copied old new e, t.1, t.2))
