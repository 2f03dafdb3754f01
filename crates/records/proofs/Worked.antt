-- Worked cases of the checker over records, and each promise used once. Assumes nothing.
use mathlib.Core.Path.{◌≡◌, refl}
use mathlib.Core.List.{List, [], ◌∷◌}
use Prim.Native.Nat.{ℕ}
use lib.ListN.{replicate}
use Rattle.ground.specs.Least.{least, one_more}
use Rattle.std.specs.Prelude.{Some, None, Ok, Err}
use Rattle.ground.specs.declared.Fault.{Fault}
use Rattle.ground.specs.declared.Refusal.{Refusal}
use Rattle.ground.specs.declared.Refusal.TheVariants.{BadDelay, BadRows, BadLength}
use Rattle.ground.specs.Judging.{first, outside, and_then}
use Rattle.link.specs.Refusal.{link_faults, row_faults, offset_faults}
use Rattle.link.specs.Rows.{Clear}
use Rattle.link.specs.declared.Link.{Link}
use Rattle.link.specs.declared.Crossing.TheVariants.{Second}
use Rattle.checker.specs.Answer.{Checked, said, found, answer}
use Rattle.checker.specs.Order.{FirstCollision}
use Rattle.checker.specs.declared.Collision.{Collision}
use Rattle.checker.proofs.Worked.{collides, clears}
use Rattle.records.specs.Columns.{delays_of, offsets_of}
use Rattle.records.specs.declared.Record.{Record}
use Rattle.records.proofs.Promises.{no_second, agrees, clear_exactly, collision_is_first, never_length}

abbrev link : Link
link = record { period = 10; size = 2 }

abbrev a : ℕ → ℕ → Record
a d o = record { delay = d; offset = o }

abbrev refused : Refusal → ℕ → Fault
refused f p = record { refusal = f; place = p }

abbrev rows_0_and_2 : Collision
rows_0_and_2 = record { earlier = 0; later = 2; crossing = Second }

-- "First table, offsets 0 2 4: collision of rows 0 and 2 in crossing 2."
abbrev colliding : List Record
colliding = a 0 0 ∷ a 3 2 ∷ a 7 4 ∷ []

pub records_collide : said (Ok (Some rows_0_and_2)) ≡ answer link (delays_of colliding) (offsets_of colliding)
unfolding delays_of offsets_of
records_collide = collides

pub first_named : FirstCollision 10 2 (delays_of colliding) (offsets_of colliding) 0 2 2
first_named = (collision_is_first link colliding (Ok (Some rows_0_and_2)) records_collide rows_0_and_2 refl).1

-- whatever is answered on these records, `check` answers on the lists
pub same_answer : (r s : Checked) → said r ≡ answer link (delays_of colliding) (offsets_of colliding)
    → said s ≡ answer link (0 ∷ 3 ∷ 7 ∷ []) (0 ∷ 2 ∷ 4 ∷ []) → r ≡ s
unfolding delays_of offsets_of
same_answer r s e f = agrees link colliding r e (0 ∷ 3 ∷ 7 ∷ []) (0 ∷ 2 ∷ 4 ∷ []) s refl refl f

-- a record has one of each
pub never_eleven : (r : Checked) (p : ℕ) → said r ≡ answer link (delays_of colliding) (offsets_of colliding)
    → r ≡ Err (refused BadLength p) → ⊥
never_eleven r p e = never_length link colliding r e p

pub only_collision : (r : Checked) → said r ≡ answer link (delays_of colliding) (offsets_of colliding) → r ≡ Ok (Some rows_0_and_2)
only_collision r e = no_second link colliding r e (Ok (Some rows_0_and_2)) records_collide

abbrev clear_one : List Record
clear_one = a 0 0 ∷ a 3 2 ∷ a 7 5 ∷ []

pub records_clear : said (Ok None) ≡ answer link (delays_of clear_one) (offsets_of clear_one)
unfolding delays_of offsets_of
records_clear = clears

pub no_two_meet : Clear 10 2 (delays_of clear_one) (offsets_of clear_one)
no_two_meet = ((clear_exactly link clear_one (Ok None) records_clear).0 refl).1

-- all delays are judged before any offset, though a record holds both: the offset 99 of row 0 is out of range too
abbrev both_wrong : List Record
both_wrong = a 0 99 ∷ a 16777216 0 ∷ []

pub delay_first : said (Err (refused BadDelay 1)) ≡ answer link (delays_of both_wrong) (offsets_of both_wrong)
unfolding delays_of offsets_of said found answer first outside and_then link_faults row_faults offset_faults least one_more
delay_first = refl

-- "no rows, or above 64"
pub no_records : said (Err (refused BadRows 0)) ≡ answer link (delays_of []) (offsets_of [])
unfolding delays_of offsets_of said found answer first outside and_then link_faults row_faults offset_faults least one_more
no_records = refl

pub too_many_records : said (Err (refused BadRows 0)) ≡ answer link (delays_of (replicate 65 (a 0 0))) (offsets_of (replicate 65 (a 0 0)))
unfolding delays_of offsets_of said found answer first outside and_then link_faults row_faults offset_faults least one_more
too_many_records = refl
