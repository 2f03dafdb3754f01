-- Document 01's first table, (10, 2, (0 3 7)), checked: each promise used once. Assumes nothing.
use mathlib.Core.Path.{◌≡◌, refl}
use mathlib.Core.List.{List, [], ◌∷◌}
use Prim.Native.Nat.{ℕ}
use Rattle.ground.specs.Least.{least, one_more}
use Rattle.ground.specs.Judging.{Fine}
use Rattle.link.specs.Range.{GoodPlan}
use Rattle.ground.specs.Judging.{first, outside, and_then}
use Rattle.link.specs.Refusal.{link_faults, row_faults, offset_faults}
use Rattle.link.specs.Rows.{second, start, hits, either, free, first_hit, met_at, Clear, blocked}
use Rattle.link.specs.Slots.{uses, meets}
use Rattle.link.specs.declared.Link.{Link}
use Rattle.checker.specs.Answer.{Checked, said, found, met_by, named, answer}
use Rattle.checker.specs.Order.{FirstCollision}
use Rattle.checker.specs.Judging.{clear_faults}
use Rattle.std.specs.Prelude.{Some, None, Ok}
use Rattle.link.specs.declared.Crossing.TheVariants.{Second}
use Rattle.checker.specs.declared.Collision.{Collision}
use Rattle.checker.proofs.Promises.{no_second, clear_exactly, collision_is_first, collision_exactly, let_through_exactly}

abbrev link : Link
link = record { period = 10; size = 2 }

abbrev delays : List ℕ
delays = 0 ∷ 3 ∷ 7 ∷ []

abbrev rows_0_and_2 : Collision
rows_0_and_2 = record { earlier = 0; later = 2; crossing = Second }

-- "First table, offsets 0 2 4: collision of rows 0 and 2 in crossing 2."
pub collides : said (Ok (Some rows_0_and_2)) ≡ answer link delays (0 ∷ 2 ∷ 4 ∷ [])
unfolding said found answer first outside and_then link_faults row_faults offset_faults named blocked free met_by met_at first_hit
    either hits start second meets uses least one_more
collides = refl

pub first_named : FirstCollision 10 2 delays (0 ∷ 2 ∷ 4 ∷ []) 0 2 2
first_named = (collision_is_first link delays (0 ∷ 2 ∷ 4 ∷ []) (Ok (Some rows_0_and_2)) collides rows_0_and_2 refl).1

pub clears : said (Ok None) ≡ answer link delays (0 ∷ 2 ∷ 5 ∷ [])
unfolding said found answer first outside and_then link_faults row_faults offset_faults named blocked free met_by met_at first_hit
    either hits start second meets uses least one_more
clears = refl

pub no_two_meet : GoodPlan link delays (0 ∷ 2 ∷ 5 ∷ []) × Clear 10 2 delays (0 ∷ 2 ∷ 5 ∷ [])
no_two_meet = (clear_exactly link delays (0 ∷ 2 ∷ 5 ∷ []) (Ok None) clears).0 refl

pub only_clear : (r : Checked) → said r ≡ answer link delays (0 ∷ 2 ∷ 5 ∷ []) → r ≡ Ok None
only_clear r e = no_second link delays (0 ∷ 2 ∷ 5 ∷ []) r (Ok None) e clears

pub not_clear : Clear 10 2 delays (0 ∷ 2 ∷ 4 ∷ []) → ⊥
not_clear = ((collision_exactly link delays (0 ∷ 2 ∷ 4 ∷ []) (Ok (Some rows_0_and_2)) collides).0 (rows_0_and_2, refl)).1

pub let_through : first (clear_faults link delays (0 ∷ 2 ∷ 5 ∷ [])) ≡ Fine
let_through = (let_through_exactly link delays (0 ∷ 2 ∷ 5 ∷ [])).1 no_two_meet
