-- Document 01's worked file and numbers, by computation, and each promise used once on them. Assumes nothing.
use mathlib.Core.Path.{◌≡◌, refl, sym}
use mathlib.Core.Bool.{true, false, not}
use mathlib.Core.List.{List, [], ◌∷◌, ◌++◌}
use mathlib.Core.Logic.{⊎_elim}
use Prim.Native.Nat.{ℕ}
use native.Mathlib.Omega.{arith}
use lib.Dec.{ltb}
use lib.ListN.{length, get_or, take, replicate}
use borrow.Author.Tests.{ltb-true, not-false}
use Rattle.std.specs.Prelude.{Some, Ok}
use Rattle.ground.specs.Judging.{first, outside, and_then}
use Rattle.ground.specs.Least.{least, one_more, some}
use Rattle.ground.specs.Words.{begins}
use Rattle.ground.proofs.Minimum.{none_has}
use Rattle.link.specs.Slots.{uses, meets}
use Rattle.link.specs.Rows.{start, second, hits, either, free, blocked}
use Rattle.link.specs.Refusal.{link_faults, row_faults, offset_faults}
use Rattle.link.specs.declared.Link.{Link}
use Rattle.checker.specs.Judging.{clear_faults}
use Rattle.checker.specs.Order.{FirstCollision}
use Rattle.link.specs.declared.Crossing.TheVariants.{Second}
use Rattle.checker.specs.declared.Collision.{Collision}
use Rattle.checker.proofs.Judging.{fine_clear}
use Rattle.checker.proofs.Promises.{collision_is_first}
use Rattle.checker.proofs.Worked.{collides, first_named, not_clear}
use Rattle.planfile.specs.Bytes.{Bytes}
use Rattle.planfile.specs.Number.{Needless, limit, groups, number_bytes, ending, onto, groups_read, read_number}
use Rattle.planfile.specs.Format.{tag, header_bytes, rows_bytes, plan_bytes, rows_parts, numbers_parts, plan_parts, first_byte, place_of}
use Rattle.planfile.specs.FileMeaning.{got, number, header, row, rows, plan, meaning}
use Rattle.planfile.specs.Answer.{PlanRead, plan_of, PlanWritten, written_said, refuses_write}
use Rattle.planfile.proofs.Accepted.{ClearPlan, means_its_plan, AcceptedFile}
use Rattle.planfile.proofs.Promises.{Writes, Reads, RefusedAt, writes_clear_only, writes_its_bytes, not_clear_not_written}
use Rattle.planfile.proofs.Promises.{read_what_was_written, one_plan, accepted_is_written, one_file, bytes_added, bytes_cut}
use Rattle.planfile.proofs.Promises.{one_encoding, left_over_first, after_the_last_number}

-- "10, 2, (0 3 7)" at "0 2 5"
abbrev pub first_link : Link
first_link = record { period = 10; size = 2 }

abbrev pub delays : List ℕ
delays = 0 ∷ 3 ∷ 7 ∷ []

abbrev pub offsets : List ℕ
offsets = 0 ∷ 2 ∷ 5 ∷ []

-- "File of the first table, offsets 0 2 5: 50 4D 41 01 0A 02 03 00 00 03 02 07 05."
abbrev pub file : List ℕ
file = 0x50 ∷ 0x4D ∷ 0x41 ∷ 0x01 ∷ 0x0A ∷ 0x02 ∷ 0x03 ∷ 0x00 ∷ 0x00 ∷ 0x03 ∷ 0x02 ∷ 0x07 ∷ 0x05 ∷ []

pub file_of_the_first_table : plan_bytes first_link delays offsets ≡ file
unfolding plan_bytes header_bytes rows_bytes number_bytes groups
file_of_the_first_table = refl

-- "300 is AC 02; 16,777,215 is FF FF FF 07."
pub three_hundred : number_bytes 300 ≡ 0xAC ∷ 0x02 ∷ []
unfolding number_bytes groups
three_hundred = refl

pub largest_delay : number_bytes 16777215 ≡ 0xFF ∷ 0xFF ∷ 0xFF ∷ 0x07 ∷ []
unfolding number_bytes groups
largest_delay = refl

-- a list with no element that is no byte
are_bytes : (bs : List ℕ) → some (λ j. not (ltb (get_or bs j 0) 256)) (length bs) ≡ false → Bytes bs
are_bytes bs e = record { byte = λ i h. ltb-true _ _ (not-false _ (none_has (λ j. not (ltb (get_or bs j 0) 256)) (length bs) e i h)) }

-- "Number AC 82 00": a needless group
pub encoded_once : number_bytes 300 ≡ 0xAC ∷ 0x02 ∷ []
unfolding read_number groups_read onto ending limit least one_more
encoded_once = sym ((one_encoding (0xAC ∷ 0x02 ∷ []) 300 (are_bytes (0xAC ∷ 0x02 ∷ []) refl) (omega arith)).0 refl)

pub needless_group : read_number (0xAC ∷ 0x82 ∷ 0x00 ∷ []) ≡ Needless
unfolding read_number groups_read onto ending
needless_group = refl

pub first_table_is_clear : ClearPlan first_link delays offsets
unfolding clear_faults blocked free hits either start second meets uses least one_more first outside and_then link_faults row_faults
    offset_faults
first_table_is_clear = fine_clear first_link delays offsets refl

pub file_bytes : Bytes file
unfolding least one_more
file_bytes = are_bytes file refl

pub file_means_the_first_table : meaning file ≡ plan first_link delays offsets
file_means_the_first_table = rw file_of_the_first_table at (means_its_plan first_link delays offsets first_table_is_clear)

-- a buffer and lists longer than needed
abbrev buffer : List ℕ
buffer = replicate 15 9

abbrev pub eights : List ℕ
eights = 8 ∷ 8 ∷ 8 ∷ 8 ∷ []

-- whatever the writer answers, and the reader of what it wrote
module _ (r : PlanWritten) (new : List ℕ) (w : Writes first_link delays offsets buffer r new) where
  pub first_table_written : (r ≡ Ok 13) × (new ≡ file ++ (9 ∷ 9 ∷ []))
  first_table_written =
      rw file_of_the_first_table at
      (writes_its_bytes first_link delays offsets buffer r new w first_table_is_clear (rw file_of_the_first_table (omega arith)))

  pub first_table_read_back : (q : PlanRead) (ds os : List ℕ) → Reads (take 13 new) eights eights q ds os
      → (q ≡ plan_of first_link 3) × (ds ≡ 0 ∷ 3 ∷ 7 ∷ 8 ∷ []) × (os ≡ 0 ∷ 2 ∷ 5 ∷ 8 ∷ [])
  first_table_read_back =
      read_what_was_written first_link delays offsets buffer r new w 13 first_table_written.0 eights eights (omega arith) (omega arith)

  pub so_it_is_clear : ClearPlan first_link delays offsets
  so_it_is_clear = writes_clear_only first_link delays offsets buffer r new w 13 first_table_written.0

  pub only_the_first_table : (k : Link) (ds os old : List ℕ) (n : ℕ) (other : List ℕ) → Writes k ds os old (Ok n) other
      → take 13 new ≡ take n other → (first_link ≡ k) × (delays ≡ ds) × (offsets ≡ os)
  only_the_first_table k ds os old n other v =
      one_plan first_link k delays ds offsets os buffer old 13 n new other (rw first_table_written.0 at w) v

-- whatever the reader answers on the file, with room for the rows
module _ (ds os : List ℕ) (w : Reads file eights eights (plan_of first_link 3) ds os) where
  pub the_file_is_written : AcceptedFile file eights eights first_link 3 ds os
  the_file_is_written = accepted_is_written file eights eights file_bytes first_link 3 ds os w

  pub the_only_file : (bs ds' os' : List ℕ) → Bytes bs → Reads bs eights eights (plan_of first_link 3) ds' os'
      → take 3 ds ≡ take 3 ds' → take 3 os ≡ take 3 os' → file ≡ bs
  the_only_file bs ds' os' h v =
      one_file file bs eights eights eights eights file_bytes h first_link 3 ds ds' os os' w v

pub one_byte_added : (r : PlanRead) (ds os : List ℕ) → Reads (file ++ (0 ∷ [])) [] [] r ds os → RefusedAt 22 13 r [] ds [] os
one_byte_added r ds os =
    rw file_of_the_first_table at (bytes_added first_link delays offsets first_table_is_clear.0 [] [] r ds os 0 [])

last_byte : place_of first_link delays offsets 12 ≡ 12
unfolding first_byte plan_parts numbers_parts rows_parts number_bytes groups
last_byte = refl

pub last_byte_cut : (r : PlanRead) (ds os : List ℕ) → Reads (take 12 file) [] [] r ds os → RefusedAt 19 12 r [] ds [] os
last_byte_cut r ds os =
    rw (file_of_the_first_table, last_byte) at
    (bytes_cut first_link delays offsets first_table_is_clear.0 [] [] r ds os 12 (rw file_of_the_first_table (omega arith)))

-- period 300, size 2 and one row, cut inside the period's two bytes: 19 at the first of them
abbrev long_link : Link
long_link = record { period = 300; size = 2 }

long_is_clear : ClearPlan long_link (0 ∷ []) (0 ∷ [])
unfolding clear_faults blocked free hits either start second meets uses least one_more first outside and_then link_faults row_faults
    offset_faults
long_is_clear = fine_clear long_link (0 ∷ []) (0 ∷ []) refl

long_file : plan_bytes long_link (0 ∷ []) (0 ∷ []) ≡ 0x50 ∷ 0x4D ∷ 0x41 ∷ 0x01 ∷ 0xAC ∷ 0x02 ∷ 0x02 ∷ 0x01 ∷ 0x00 ∷ 0x00 ∷ []
unfolding plan_bytes header_bytes rows_bytes number_bytes groups
long_file = refl

in_the_period : place_of long_link (0 ∷ []) (0 ∷ []) 5 ≡ 4
unfolding first_byte plan_parts numbers_parts rows_parts number_bytes groups
in_the_period = refl

pub period_cut : (r : PlanRead) (ds os : List ℕ) → Reads (0x50 ∷ 0x4D ∷ 0x41 ∷ 0x01 ∷ 0xAC ∷ []) [] [] r ds os
    → RefusedAt 19 4 r [] ds [] os
period_cut r ds os =
    rw (long_file, in_the_period) at
    (bytes_cut long_link (0 ∷ []) (0 ∷ []) long_is_clear.0 [] [] r ds os 5 (rw long_file (omega arith)))

-- "First table, offsets 0 2 4": not clear
abbrev others : List ℕ
others = 0 ∷ 2 ∷ 4 ∷ []

abbrev unclear_file : List ℕ
unclear_file = 0x50 ∷ 0x4D ∷ 0x41 ∷ 0x01 ∷ 0x0A ∷ 0x02 ∷ 0x03 ∷ 0x00 ∷ 0x00 ∷ 0x03 ∷ 0x02 ∷ 0x07 ∷ 0x04 ∷ []

abbrev rows_0_and_2 : Collision
rows_0_and_2 = record { earlier = 0; later = 2; crossing = Second }

-- its first collision has row 2 as the later one
later_row : {i j c : ℕ} → FirstCollision 10 2 delays others i j c → 2 ≡ j
later_row f =
    ⊎_elim (λ h. ⊎_elim (λ k. absurd (omega arith)) (λ k. absurd (omega (arith, k.0))) (f.least 0 2 _ first_named.collides))
    (λ h. h.0) (first_named.least _ _ _ f.collides)

pub not_written : (r : PlanWritten) (new : List ℕ) → Writes first_link delays others buffer r new
    → (written_said r ≡ refuses_write 18 2) × (new ≡ buffer)
not_written r new w =
    let good = (collision_is_first first_link delays others (Ok (Some rows_0_and_2)) collides rows_0_and_2 refl).0 in
    let v = not_clear_not_written first_link delays others buffer r new w good not_clear in
    (rw (later_row v.3) v.4, v.5)

unclear_bytes : Bytes unclear_file
unfolding least one_more
unclear_bytes = are_bytes unclear_file refl

head_read : header unclear_file 4 ≡ got (record { link = first_link; rows = 3 }) 7
unfolding header number read_number groups_read onto ending outside
head_read = refl

rows_read : rows unclear_file 10 3 [] [] 7 ≡ got (record { delays = delays; offsets = others }) 13
unfolding rows row number read_number groups_read onto ending outside
rows_read = refl

with_tag : begins tag unclear_file ≡ true
unfolding begins
with_tag = refl

pub not_read : (r : PlanRead) (ds os : List ℕ) → Reads unclear_file [] [] r ds os → RefusedAt 18 2 r [] ds [] os
not_read r ds os v =
    let w = after_the_last_number unclear_file first_link 3 7 (record { delays = delays; offsets = others }) 13 with_tag head_read rows_read
    [] [] r ds os v unclear_bytes (omega arith) not_clear in
    rw (later_row w.3) w.4

-- and with a byte more it is 22, for that byte comes before 18
pub left_over_before_18 : (r : PlanRead) (ds os : List ℕ) → Reads (unclear_file ++ (0 ∷ [])) [] [] r ds os → RefusedAt 22 13 r [] ds [] os
unfolding begins header rows row number read_number groups_read onto ending outside
left_over_before_18 r ds os v =
    left_over_first (unclear_file ++ (0 ∷ [])) first_link 3 7 (record { delays = delays; offsets = others }) 13 refl refl refl
    [] [] r ds os v (omega arith)
