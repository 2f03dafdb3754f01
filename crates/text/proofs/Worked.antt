-- Document 01's worked text, whole and damaged, computed from the definitions; then each promise once, at a text that meets what it asks.
use mathlib.Core.Path.{◌≡◌, refl, sym, ap, ◌∙◌}
use mathlib.Core.List.{List, [], ◌∷◌, ◌++◌}
use Prim.Native.Nat.{ℕ}
use native.Mathlib.Omega.{arith}
use lib.ListN.{take, replicate, length-replicate}
use Rattle.std.specs.Prelude.{Result, Ok, Err}
use Rattle.ground.specs.Least.{one_more, least}
use Rattle.ground.specs.Words.{begins}
use Rattle.ground.specs.Judging.{first, outside, and_then}
use Rattle.ground.specs.Protocol.{gives}
use Rattle.ground.specs.Refusals.{number_of}
use Rattle.ground.specs.declared.Fault.{Fault}
use Rattle.ground.specs.declared.Refusal.{Refusal}
use Rattle.ground.specs.declared.Refusal.TheVariants.{LongText, CutLine, BadCount, BytesAfter}
use Rattle.link.specs.Refusal.{link_faults}
use Rattle.link.specs.declared.Link.{Link}
use Rattle.text.specs.declared.Table.{Table}
use Rattle.text.specs.declared.Text.{Text}
use Rattle.text.specs.Bytes.{seek, same}
use Rattle.text.specs.Decimal.{is_other, all_digits, leading_zero, is_decimal, value_from}
use Rattle.text.specs.Lines.{next_line, begin, line_from, ended_from}
use Rattle.text.specs.Faults.{first_part, second_part, is_pair, link_of, is_last, count_part, placed_at, title_faults, pair_faults}
use Rattle.text.specs.Faults.{row_faults, last_faults, own_faults, line_faults, lines_faults}
use Rattle.text.specs.Faults.{rows_of, text_faults, end_of, late_faults, read_faults}
use Rattle.text.specs.Answer.{said, delays_of, accepted, reading}
use Rattle.text.specs.TextAnswer.{text_said, wholly, reading_text}
use Rattle.text.specs.Meaning.{TableOf, RefusalOf}
use Rattle.text.proofs.Promises.{no_second, no_second_text, table_or_refusal, accepted_is_the_text, every_table_has_a_text, one_text}
use Rattle.text.proofs.Promises.{lost_newline, long_text}

-- `pma 1`, `10 2`, `0`, `3`, and then `7`, `end 3`, with a byte 10 behind each but the `3`
abbrev pub front : List ℕ
front = 112 ∷ 109 ∷ 97 ∷ 32 ∷ 49 ∷ 10 ∷ 49 ∷ 48 ∷ 32 ∷ 50 ∷ 10 ∷ 48 ∷ 10 ∷ 51 ∷ []

abbrev pub back : List ℕ
back = 55 ∷ 10 ∷ 101 ∷ 110 ∷ 100 ∷ 32 ∷ 51 ∷ 10 ∷ []

-- the text, the same without the byte 10 between 3 and 7, and the same with a byte behind it
abbrev pub text : List ℕ
text = front ++ 10 ∷ back

abbrev joined : List ℕ
joined = front ++ back

abbrev longer : List ℕ
longer = text ++ 120 ∷ []

abbrev link : Link
link = record { period = 10; size = 2 }

abbrev table : Table
table = record { link = link; rows = 3 }

abbrev ending : Text
ending = record { link = link; rows = 3; end = 23 }

abbrev at_byte : Refusal → ℕ → Fault
at_byte r p = record { refusal = r; place = p }

abbrev lost_at : ℕ → Result Table Fault
lost_at p = Err (at_byte BadCount p)

abbrev nines : List ℕ
nines = 9 ∷ 9 ∷ 9 ∷ 9 ∷ []

-- what `read_text` is lent has 64 places
abbrev all_nines : List ℕ
all_nines = replicate 64 9

pub record Worked : Type 0 where
  -- the table 10, 2, (0 3 7), and the list's tail kept
  pub whole : gives (said (Ok table)) (0 ∷ 3 ∷ 7 ∷ 9 ∷ []) ≡ reading text nines
  -- "With the newline between 3 and 7 lost it prints `refused 9 16`."
  pub lost : gives (said (lost_at 16)) nines ≡ reading joined nines
  -- "so empty input gives 3"
  pub empty : gives (said (Err (at_byte CutLine 0))) nines ≡ reading [] nines
  -- "10 if bytes follow": the text is whole, and ends before its byte 23
  pub behind : gives (text_said (Ok ending)) (0 ∷ 3 ∷ 7 ∷ replicate 61 9) ≡ reading_text longer all_nines
  pub after : gives (said (Err (at_byte BytesAfter 23))) nines ≡ reading longer nines

pub worked : Worked
unfolding one_more least first outside and_then link_faults seek same begins is_other all_digits leading_zero is_decimal value_from
    next_line begin line_from ended_from first_part second_part is_pair link_of is_last count_part placed_at
    title_faults pair_faults row_faults last_faults own_faults line_faults lines_faults rows_of text_faults end_of late_faults read_faults
    delays_of accepted said text_said reading wholly reading_text
worked = record { whole = refl; lost = refl; empty = refl; behind = refl; after = refl }

pub record Promised : Type 0 where
  pub the_text : TableOf text nines link 3 (0 ∷ 3 ∷ 7 ∷ 9 ∷ [])
  pub accepted_so : (r : Result Table Fault) (new : List ℕ) → gives (said r) new ≡ reading text nines
      → (r ≡ Ok table) × (new ≡ 0 ∷ 3 ∷ 7 ∷ 9 ∷ [])
  pub no_other_text : (y old new : List ℕ) → gives (said (Ok table)) new ≡ reading y old → take 3 new ≡ 0 ∷ 3 ∷ 7 ∷ [] → text ≡ y
  pub refused_so : (r : Result Table Fault) (new : List ℕ) → gives (said r) new ≡ reading joined nines
      → (r ≡ lost_at 16) × (new ≡ nines)
  pub refused_joined : (f : Fault) × (lost_at 16 ≡ Err f) × RefusalOf joined nines (number_of f.refusal) f.place nines
  pub refused_empty : RefusalOf [] nines 3 0 nines
  pub refused_long : (r : Result Table Fault) (new : List ℕ) → gives (said r) new ≡ reading (replicate 1025 120) nines
      → (r ≡ Err (at_byte LongText 0)) × (new ≡ nines)
  pub whole_so : (r : Result Text Fault) (new : List ℕ) → gives (text_said r) new ≡ reading_text longer all_nines
      → (r ≡ Ok ending) × (new ≡ 0 ∷ 3 ∷ 7 ∷ replicate 61 9)

pub promised : Promised
promised =
    let t = accepted_is_the_text text nines table _ worked.whole in
    record {
      the_text = t;
      accepted_so = λ r new e.
          every_table_has_a_text link (0 ∷ 3 ∷ 7 ∷ []) nines r new t.good (omega arith)
          (e ∙ ap (λ (x : List ℕ). reading x nines) t.text);
      no_other_text = λ y old new e h. one_text text y nines old table _ new worked.whole e (sym h);
      refused_so = λ r new e. no_second joined nines r (lost_at 16) new nines e worked.lost;
      refused_joined = lost_newline front back nines nines table _ (lost_at 16) nines worked.whole worked.lost;
      refused_empty = table_or_refusal [] nines (Err (at_byte CutLine 0)) nines worked.empty;
      refused_long = λ r new. long_text (replicate 1025 120) nines r new (omega (arith, length-replicate {A = ℕ} 1025 120));
      whole_so = λ r new e. no_second_text longer all_nines r (Ok ending) new _ e worked.behind;
    }
