-- What the reader of one text tells: a whole text, or its first fault. Assumes nothing.
use mathlib.Core.Path.{◌≡◌, sym, ap, ◌∙◌}
use mathlib.Core.List.{List}
use Prim.Native.Nat.{ℕ, suc, ◌≤◌}
use native.Mathlib.Omega.{arith}
use lib.ListN.{length, take, drop, length-append}
use lib.Seq.{take_at}
use Rattle.ground.specs.Judging.{Fine, Fault, first}
use Rattle.ground.specs.Protocol.{Outcome, gives, keeping}
use Rattle.ground.proofs.Answers.{Told, stopped, through, told, let_through}
use Rattle.ground.proofs.Bools.{never}
use Rattle.link.specs.Limits.{max_rows}
use Rattle.link.specs.declared.Link.{Link}
use Rattle.text.specs.Faults.{text_faults, rows_of, end_of}
use Rattle.text.specs.Answer.{table_link, delays_of}
use Rattle.text.specs.TextAnswer.{TextSaid, TextVerdict, whole, refusal, whole_text, refusing_text, wholly, reading_text}
use Rattle.text.proofs.Right.{right}
use Rattle.text.proofs.Values.{length_delays}
use Rattle.text.proofs.Walk.{ended_low}

-- a text y of that many rows, whose delays stand in front of the list `new` where `old` was
pub record WholeText (y : List ℕ) (k : Link) (rows end : ℕ) (old new : List ℕ) : Type 0 where
  pub fine : first (text_faults y) ≡ Fine
  pub link : k ≡ table_link y
  pub rows_are : rows ≡ rows_of y
  pub ends : end ≡ end_of y
  pub delays : take rows new ≡ delays_of y (rows_of y)
  pub few : rows ≤ max_rows
  pub room : max_rows ≤ length old → rows ≤ length new
  pub inside : end ≤ length y

abbrev wholes : TextVerdict → ℕ
wholes whole = 1
wholes refusal = 0

abbrev is_whole : Outcome TextSaid (List ℕ) → ℕ
is_whole o = wholes o.says.verdict

module _ (y old new : List ℕ) where
  pub whole_told : (k : Link) (rows end : ℕ) → gives (whole_text k rows end) new ≡ reading_text y old
      → WholeText y k rows end old new
  unfolding reading_text wholly end_of
  whole_told k rows end e =
      let w = let_through (keeping refusing_text old) (first (text_faults y)) (λ n p f. never (sym (ap is_whole f))) e in
      let good = right y w.0 in
      let n : rows ≡ rows_of y = ap (λ (o : Outcome TextSaid (List ℕ)). o.says.rows) w.1 in
      let l : end ≡ end_of y = ap (λ (o : Outcome TextSaid (List ℕ)). o.says.end) w.1 in
      record {
        fine = w.0;
        link = ap (λ (o : Outcome TextSaid (List ℕ)). o.says.link) w.1;
        rows_are = n;
        ends = l;
        delays = rw (ap (λ (o : Outcome TextSaid (List ℕ)). o.leaves) w.1, n)
            (take_at (delays_of y (rows_of y)) (drop (length (delays_of y (rows_of y))) old) (rows_of y) (length_delays y (rows_of y)));
        few = rw n good.few;
        room = λ h. omega (
          arith,
          ap length (ap (λ (o : Outcome TextSaid (List ℕ)). o.leaves) w.1),
          n,
          length_delays y (rows_of y),
          length-append (delays_of y (rows_of y)) (drop (length (delays_of y (rows_of y))) old),
        );
        inside = rw l (ended_low y (suc (suc (rows_of y))) (good.whole (suc (suc (rows_of y))) (omega arith)));
      }

  pub fault_told : (n p : ℕ) → gives (refusing_text n p) new ≡ reading_text y old → first (text_faults y) ≡ Fault n p
  unfolding reading_text wholly
  fault_told n p e = go (told (keeping refusing_text old) (first (text_faults y)) e)
    where
      go : Told (keeping refusing_text old) (first (text_faults y)) (wholly y old) (gives (refusing_text n p) new)
          → first (text_faults y) ≡ Fault n p
      go (stopped m q f g) = f ∙ ap (λ (o : Outcome TextSaid (List ℕ)). Fault o.says.number o.says.place) (sym g)
      go (through f g) = never (ap is_whole g)
