-- What the planner of one-slot messages answers, and what it leaves in the lent list.
use Rattle.std.specs.Prelude.{not, List, [], ◌∷◌, ℕ, eqb, length, Err}
use Rattle.ground.specs.Judging.{Cause, first, when, and_then}
use Rattle.ground.specs.Protocol.{Outcome, keeping, unless}
use Rattle.ground.specs.declared.Refusal.TheVariants.{NotOneSlot}
use Rattle.link.specs.Refusal.{planner_faults}
use Rattle.link.specs.Rows.{span_of}
use Rattle.link.specs.declared.Link.{Link}
use Rattle.quick.specs.Answer.{Said, Planned, refusing, outcome}
use Rattle.oneslot.specs.Limits.{not_one_slot}
use Rattle.oneslot.specs.Plan.{all_settled}

-- "25, after 12's place in the order, if the size isn't 1"
unfoldable pub size_faults : Link → List Cause
size_faults k = when (not (eqb k.size 1)) not_one_slot 0 ∷ []

-- 25 in the code's form
abbrev pub size_refused : Planned
size_refused = Err (record { refusal = NotOneSlot; place = 0 })

-- 5, 6, 8, 7, 11, 25
abbrev pub faults : Link → List ℕ → ℕ → List Cause
faults k ds room = and_then (planner_faults k ds room) (size_faults k)

-- then the plan, or 13
unfoldable pub one_slot : Link → List ℕ → List ℕ → Outcome Said (List ℕ)
one_slot k ds old =
    unless (keeping refusing old) (first (faults k ds (length old))) (outcome (all_settled k.period (span_of k) ds) old)
