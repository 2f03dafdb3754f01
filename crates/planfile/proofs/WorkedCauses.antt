-- Request One on files: each cause once, and each place at which the reader can come to it. Assumes nothing.
use mathlib.Core.Path.{◌≡◌, refl}
use mathlib.Core.Bool.{false, not}
use mathlib.Core.List.{List, [], ◌∷◌, ◌++◌}
use Prim.Native.Nat.{ℕ, ◌<◌}
use native.Mathlib.Omega.{arith}
use lib.Dec.{ltb, eqb}
use lib.ListN.{length, get_or}
use borrow.Author.Tests.{ltb-false, eqb-true, not-false}
use Rattle.std.specs.Prelude.{Err}
use Rattle.ground.specs.Judging.{outside}
use Rattle.ground.specs.declared.Fault.{Fault}
use Rattle.ground.specs.declared.Refusal.TheVariants.{LongNumber}
use Rattle.ground.specs.Least.{least, one_more, some}
use Rattle.ground.specs.Words.{begins, Differ}
use Rattle.ground.proofs.Minimum.{none_has}
use Rattle.link.specs.declared.Link.{Link}
use Rattle.planfile.specs.Bytes.{Bytes}
use Rattle.planfile.specs.Number.{ending, onto, groups_read, read_number, form_fault}
use Rattle.planfile.specs.Format.{tag, plan_parts, first_byte}
use Rattle.planfile.specs.FileMeaning.{number, Head, header, row, rows, body, meaning}
use Rattle.planfile.specs.Answer.{PlanRead, plan_of, refuses_read, read_said, delivered, read_gives}
use Rattle.planfile.specs.FormFault.{TopBits, EndsInTag, cut, too_long, needless, RowAt, period, size, row_count, delay, offset}
use Rattle.planfile.specs.FormFault.{FormFault, tag_wrong, cut_tag, bad_number, bytes_left_over}
use Rattle.planfile.proofs.Promises.{Reads, RefusedAt, front_is_cut, more_is_left_over, only_cut_is_mended}
use Rattle.planfile.proofs.Promises.{told_by_cause, one_cause, wrong_tag_exactly}
use Rattle.planfile.proofs.Accepted.{reads_back}
use Rattle.planfile.proofs.Worked.{first_link, delays, offsets, file, file_of_the_first_table, first_table_is_clear}
use Rattle.planfile.proofs.Worked.{file_bytes, eights}

-- bytes whose tests have been computed
ends_in_tag : (bs : List ℕ) → length bs < 4 → some (λ i. not (eqb (get_or bs i 0) (get_or tag i 0))) (length bs) ≡ false → EndsInTag bs
ends_in_tag bs h e = (h, λ i l. eqb-true _ _ (not-false _ (none_has (λ i. not (eqb (get_or bs i 0) (get_or tag i 0))) (length bs) e i l)))

top_bits : (m : ℕ) (bs : List ℕ) → some (λ i. ltb (get_or bs i 0) 128) m ≡ false → TopBits m bs
top_bits m bs e i l = ltb-false _ _ (none_has (λ i. ltb (get_or bs i 0) 128) m e i l)

-- whatever answer meets the reader's contract on the bytes, it is this refusal
abbrev pub Refuses : List ℕ → ℕ → ℕ → Type 0
Refuses bs n at = (r : PlanRead) (ds os : List ℕ) → Reads bs [] [] r ds os → read_said r ≡ refuses_read n at

answers : (bs : List ℕ) (n at : ℕ) → FormFault bs n at → Refuses bs n at
answers bs n at f r ds os w = ((told_by_cause bs [] [] r ds os w n at).0 f).0

-- '"" is 19 at 0, "PM" 19, "PX" 16, "PMA" 19, "PMA\x00" 16'
pub no_byte : Refuses [] 19 0
unfolding least one_more
no_byte = answers [] 19 0 (cut_tag refl refl (ends_in_tag [] (omega arith) refl))

pub three_bytes : Refuses (0x50 ∷ 0x4D ∷ 0x41 ∷ []) 19 0
unfolding least one_more
three_bytes = answers (0x50 ∷ 0x4D ∷ 0x41 ∷ []) 19 0 (cut_tag refl refl (ends_in_tag (0x50 ∷ 0x4D ∷ 0x41 ∷ []) (omega arith) refl))

px : Differ (0x50 ∷ 0x58 ∷ []) tag
px = (1, omega arith, omega arith, λ e. omega arith)

pub other_letter : Refuses (0x50 ∷ 0x58 ∷ []) 16 0
other_letter r ds os w = (wrong_tag_exactly (0x50 ∷ 0x58 ∷ []) [] [] r ds os w 0).1 (refl, px)

pub version_0 : Refuses (0x50 ∷ 0x4D ∷ 0x41 ∷ 0x00 ∷ []) 16 0
version_0 = answers _ 16 0 (tag_wrong refl refl (3, omega arith, omega arith, λ e. omega arith))

-- "Three bytes with top bit, then the end: 19. Four with top bit: 20, also when the file ends right there"; "80 80 80 00 is 21"
abbrev behind_tag : List ℕ → List ℕ
behind_tag bs = 0x50 ∷ 0x4D ∷ 0x41 ∷ 0x01 ∷ bs

pub three_top_bits : Refuses (behind_tag (0x80 ∷ 0x80 ∷ 0x80 ∷ [])) 19 4
unfolding begins least one_more
three_top_bits = answers _ 19 4 (bad_number refl (period refl) (cut refl (omega arith) (top_bits 3 (0x80 ∷ 0x80 ∷ 0x80 ∷ []) refl)))

abbrev four : List ℕ
four = 0x80 ∷ 0x80 ∷ 0x80 ∷ 0x80 ∷ []

four_are_too_many : FormFault (behind_tag four) 20 4
unfolding begins least one_more
four_are_too_many = bad_number refl (period refl) (too_long refl (omega arith) (top_bits 4 four refl))

pub four_top_bits : Refuses (behind_tag four) 20 4
four_top_bits = answers _ 20 4 four_are_too_many

pub nothing_else_is_wrong : (n at : ℕ) → FormFault (behind_tag four) n at → (n ≡ 20) × (at ≡ 4)
nothing_else_is_wrong n at f = one_cause (behind_tag four) n 20 at 4 f four_are_too_many

-- no bytes behind them make a file that is accepted
abbrev four_refused : Fault
four_refused = record { refusal = LongNumber; place = 4 }

read_so : Reads (behind_tag four) [] [] (Err four_refused) [] []
unfolding read_said read_gives delivered meaning body header number read_number groups_read onto form_fault begins
read_so = refl

pub never_mended : (b : ℕ) (xs old_d old_o : List ℕ) → Bytes (behind_tag (four ++ (b ∷ xs))) → (k : Link) (m : ℕ)
    → (ds os : List ℕ) → Reads (behind_tag (four ++ (b ∷ xs))) old_d old_o (plan_of k m) ds os → ⊥
never_mended = only_cut_is_mended (behind_tag four) [] [] four_refused [] [] read_so (λ e. omega arith)

pub fourth_byte_0 : Refuses (behind_tag (0x80 ∷ 0x80 ∷ 0x80 ∷ 0x00 ∷ [])) 21 4
unfolding begins least one_more
fourth_byte_0 =
    answers _ 21 4
    (bad_number refl (period refl)
    (needless refl 3 (omega arith) (omega arith) (omega arith) (top_bits 3 (0x80 ∷ 0x80 ∷ 0x80 ∷ 0x00 ∷ []) refl) refl))

-- the same forms at each other number: the size cut, the number of rows too long, a needless group in row 0's delay and in its offset
pub size_cut : Refuses (behind_tag (0x0A ∷ [])) 19 5
unfolding begins number read_number groups_read onto ending outside least one_more
size_cut = answers _ 19 5 (bad_number refl (size 10 refl) (cut refl (omega arith) (top_bits 0 [] refl)))

pub rows_too_long : Refuses (behind_tag (0x0A ∷ 0x02 ∷ 0xFF ∷ 0xFF ∷ 0xFF ∷ 0xFF ∷ [])) 20 6
unfolding begins number read_number groups_read onto ending outside least one_more
rows_too_long =
    answers _ 20 6
    (bad_number refl (row_count 10 2 5 refl refl) (too_long refl (omega arith) (top_bits 4 (0xFF ∷ 0xFF ∷ 0xFF ∷ 0xFF ∷ []) refl)))

abbrev one_row : Head
one_row = record { link = first_link; rows = 1 }

-- the file of one row on the first table's link, up to its rows
abbrev behind_header : List ℕ → List ℕ
behind_header bs = behind_tag (0x0A ∷ 0x02 ∷ 0x01 ∷ bs)

at_row_0 : (bs : List ℕ) → RowAt (behind_header bs) one_row 0 7
unfolding header rows number read_number groups_read onto ending outside
at_row_0 bs = record { from = 7; above = record { delays = []; offsets = [] }; headed = refl; rowed = refl }

pub delay_needless : Refuses (behind_header (0xAC ∷ 0x82 ∷ 0x00 ∷ [])) 21 7
unfolding begins least one_more
delay_needless =
    answers _ 21 7
    (bad_number refl (delay one_row 0 (omega arith) (at_row_0 (0xAC ∷ 0x82 ∷ 0x00 ∷ [])))
    (needless refl 2 (omega arith) (omega arith) (omega arith) (top_bits 2 (0xAC ∷ 0x82 ∷ 0x00 ∷ []) refl) refl))

pub offset_needless : Refuses (behind_header (0x00 ∷ 0x80 ∷ 0x00 ∷ 0x00 ∷ [])) 21 8
unfolding begins number read_number groups_read onto ending outside least one_more
offset_needless =
    answers _ 21 8
    (bad_number refl (offset one_row 0 0 7 (omega arith) (at_row_0 (0x00 ∷ 0x80 ∷ 0x00 ∷ 0x00 ∷ [])) refl)
    (needless refl 1 (omega arith) (omega arith) (omega arith) (top_bits 1 (0x80 ∷ 0x00 ∷ 0x00 ∷ []) refl) refl))

pub one_left_over : Refuses (behind_header (0x00 ∷ 0x00 ∷ 0x80 ∷ [])) 22 9
unfolding begins header rows row number read_number groups_read onto ending outside
one_left_over =
    answers _ 22 9
    (bytes_left_over refl refl one_row
    (record { from = 7; above = record { delays = 0 ∷ []; offsets = 0 ∷ [] }; headed = refl; rowed = refl }) (omega arith))

-- the first table's file is accepted; its first two bytes, and the file with a byte behind it
file_read : Reads file eights eights (plan_of first_link 3) (0 ∷ 3 ∷ 7 ∷ 8 ∷ []) (0 ∷ 2 ∷ 5 ∷ 8 ∷ [])
unfolding read_said
file_read =
    rw file_of_the_first_table at (reads_back first_link delays offsets first_table_is_clear eights eights (omega arith) (omega arith))

module _ (r : PlanRead) (ds os : List ℕ) where
  pub two_bytes_of_it : Reads (0x50 ∷ 0x4D ∷ []) [] [] r ds os → RefusedAt 19 0 r [] ds [] os
  unfolding first_byte plan_parts
  two_bytes_of_it = front_is_cut file eights eights file_bytes first_link 3 _ _ file_read [] [] r ds os 2 (omega arith)

  pub one_byte_behind_it : Reads (file ++ (0 ∷ [])) [] [] r ds os → RefusedAt 22 13 r [] ds [] os
  one_byte_behind_it = more_is_left_over file eights eights file_bytes first_link 3 _ _ file_read [] [] r ds os 0 []
