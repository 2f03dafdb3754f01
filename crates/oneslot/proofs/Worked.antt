-- The definition on small tables, and each promise used once. Assumes nothing.
use mathlib.Core.Path.{◌≡◌, refl}
use mathlib.Core.List.{List, [], ◌∷◌}
use Prim.Native.Nat.{ℕ, ◌≤◌, ◌<◌}
use native.Mathlib.Omega.{arith}
use lib.ListN.{get_or}
use Rattle.ground.specs.Judging.{first, outside, and_then}
use Rattle.ground.specs.Least.{one_more, least}
use Rattle.ground.specs.Protocol.{gives}
use Rattle.ground.proofs.Bools.{clash}
use Rattle.ground.proofs.Minimum.{none_has}
use Rattle.link.specs.Range.{GoodTable}
use Rattle.link.specs.Refusal.{link_faults, row_faults, room_faults}
use Rattle.link.specs.Rows.{second, start, hits, either, free, blocked}
use Rattle.link.specs.Slots.{uses, meets}
use Rattle.link.specs.declared.Link.{Link}
use Rattle.quick.specs.Answer.{Planned, planned, thirteen, planning, said, outcome, quick, first_fit}
use Rattle.quick.specs.Plan.{free_at, place, placed}
use Rattle.oneslot.specs.Answer.{size_refused, size_faults, one_slot}
use Rattle.oneslot.specs.Moves.{all_clear, serves, opens, move_of, gives_way, least_move}
use Rattle.oneslot.specs.Plan.{or_moved, settle, settled}
use Rattle.oneslot.specs.Right.{NoneFree, Next, GivenPlan, NotLetIn, OthersStay}
use Rattle.oneslot.proofs.FirstFit.{first_fit_same, is_planned, never_thirteen}
use Rattle.oneslot.proofs.Moving.{others_stay, all_stay, one_moves}
use Rattle.oneslot.proofs.NextRow.{is_next}
use Rattle.oneslot.proofs.Promises.{no_second, plan_is_right, thirteen_exactly, twenty_five_exactly, refusal_keeps}

abbrev pub link : ℕ → ℕ → Link
link p t = record { period = p; size = t }

abbrev pub ds₁ : List ℕ
ds₁ = 0 ∷ 2 ∷ 1 ∷ 1 ∷ []

abbrev pub ds₂ : List ℕ
ds₂ = 0 ∷ 1 ∷ []

abbrev pub old : List ℕ
old = 9 ∷ 9 ∷ 9 ∷ 9 ∷ 9 ∷ []

abbrev pub plan₁ : List ℕ
plan₁ = 2 ∷ 1 ∷ 0 ∷ 3 ∷ 9 ∷ []

-- 4, 1, (0 2 1 1): First Fit gives 13 at row 2
pub let_in : gives (said planned) plan₁ ≡ one_slot (link 4 1) ds₁ old
unfolding said one_slot outcome settled settle or_moved place free_at all_clear blocked serves opens move_of gives_way least_move free
    hits first
    and_then link_faults row_faults room_faults size_faults start outside either second uses meets least one_more
let_in = refl

-- 2, 1, (0 1): wherever the two rows stand, they meet in one of the crossings
pub gives_up : gives (said (thirteen 1)) old ≡ one_slot (link 2 1) ds₂ old
unfolding said one_slot outcome settled settle or_moved place free_at all_clear blocked serves opens move_of gives_way least_move free
    hits first
    and_then link_faults row_faults room_faults size_faults start outside either second uses meets least one_more
gives_up = refl

-- 4, 2, (0 1): the size isn't 1
pub two_slots : gives (said size_refused) old ≡ one_slot (link 4 2) ds₂ old
unfolding said one_slot outcome settled settle or_moved place free_at all_clear blocked serves opens move_of gives_way least_move free
    hits first
    and_then link_faults row_faults room_faults size_faults start outside either second uses meets least one_more
two_slots = refl

-- 3, 1, (0 1): First Fit has a plan
pub fits : gives planning (0 ∷ 1 ∷ 9 ∷ 9 ∷ 9 ∷ []) ≡ first_fit (link 3 1) ds₂ old
unfolding said quick outcome placed place free_at free hits first and_then link_faults row_faults room_faults start outside either second
    uses
    meets least one_more
fits = refl

-- in ds₁ row 0 gives way to row 2
abbrev two_in : List ℕ
two_in = 0 ∷ 1 ∷ []

abbrev three_in : List ℕ
three_in = 2 ∷ 1 ∷ 0 ∷ []

abbrev four_in : List ℕ
four_in = 2 ∷ 1 ∷ 0 ∷ 3 ∷ []

pub gives_way_lem : Next 4 1 ds₁ two_in three_in
unfolding settle or_moved place free_at all_clear blocked serves opens move_of gives_way least_move free hits start either second uses
    meets least
    one_more
gives_way_lem = is_next 4 1 ds₁ (omega arith) two_in (omega arith) three_in refl

pub at_most_one : (i : ℕ) × OthersStay two_in three_in i
at_most_one = let w = others_stay 4 1 ds₁ two_in gives_way_lem in (w.0, w.1)

none_free : NoneFree 4 1 ds₁ two_in
unfolding free hits start either second uses meets least one_more
none_free a h f = clash f (none_has (free 4 1 ds₁ two_in 2 1) 4 refl a h)

pub just_one : (i : ℕ) × (i < 2) × (get_or three_in i 0 ≡ get_or two_in i 0 → ⊥) × OthersStay two_in three_in i
just_one = one_moves 4 1 ds₁ two_in (omega arith) none_free gives_way_lem

-- the offset 3 is free for row 3, and the others stay
pub comes_in : Next 4 1 ds₁ three_in four_in
unfolding settle or_moved place free_at all_clear blocked serves opens move_of gives_way least_move free hits start either second uses
    meets least
    one_more
comes_in = is_next 4 1 ds₁ (omega arith) three_in (omega arith) four_in refl

pub no_one : (j : ℕ) → j < 3 → get_or four_in j 0 ≡ get_or three_in j 0
unfolding free hits start either second uses meets least one_more
no_one = all_stay 4 1 ds₁ three_in 3 (omega arith) refl comes_in

pub right : GivenPlan (link 4 1) ds₁ old plan₁
right = (plan_is_right (link 4 1) ds₁ old planned plan₁ let_in).0 refl

-- two answers to the same table are the same
pub only_plan : (r : Planned) (new : List ℕ) → gives (said r) new ≡ one_slot (link 4 1) ds₁ old → (r ≡ planned) × (new ≡ plan₁)
only_plan r new e = no_second (link 4 1) ds₁ old r planned new plan₁ e let_in

pub right_rows_are_planned : (r : Planned) → gives (said r) plan₁ ≡ one_slot (link 4 1) ds₁ old → r ≡ planned
right_rows_are_planned r e = (plan_is_right (link 4 1) ds₁ old r plan₁ e).1 right

pub no_move : NotLetIn (link 2 1) ds₂ old 1
no_move = (thirteen_exactly (link 2 1) ds₂ old (thirteen 1) old gives_up 1).0 refl

pub is_refused : (r : Planned) (new : List ℕ) → gives (said r) new ≡ one_slot (link 2 1) ds₂ old → r ≡ thirteen 1
is_refused r new e = (thirteen_exactly (link 2 1) ds₂ old r new e 1).1 no_move

pub kept : (new : List ℕ) → gives (said (thirteen 1)) new ≡ one_slot (link 2 1) ds₂ old → new ≡ old
kept new e = refusal_keeps (link 2 1) ds₂ old (thirteen 1) new e _ refl

-- the rows ds₂ in each period and size
in_range : (p t : ℕ) → (1 ≤ t) × (t ≤ p) × (p ≤ 1000000) → GoodTable (link p t) ds₂
in_range p t h =
    record {
      period_low = omega (arith, h);
      period_high = h.2;
      span_low = h.0;
      span_high = h.1;
      rows_low = omega arith;
      rows_high = omega arith;
      delays = no_move.table.delays;
    }

pub twenty_five : (r : Planned) (new : List ℕ) → gives (said r) new ≡ one_slot (link 4 2) ds₂ old → r ≡ size_refused
twenty_five r new e =
    (twenty_five_exactly (link 4 2) ds₂ old r new e).1 (in_range 4 2 (omega arith), omega arith, λ s. omega arith)

pub never_twenty_five : (r : Planned) (new : List ℕ) → gives (said r) new ≡ one_slot (link 4 1) ds₂ old → r ≡ size_refused → ⊥
never_twenty_five r new e c =
    ((twenty_five_exactly (link 4 1) ds₂ old r new e).0 c).2 refl

pub same_plan : one_slot (link 3 1) ds₂ old ≡ gives planning (0 ∷ 1 ∷ 9 ∷ 9 ∷ 9 ∷ [])
same_plan = first_fit_same (link 3 1) ds₂ old refl (0 ∷ 1 ∷ 9 ∷ 9 ∷ 9 ∷ []) fits

module _ (r : Planned) (new : List ℕ) where
  -- two rows and three offsets: 3 is 2n-1
  pub two_rows : gives (said r) new ≡ one_slot (link 3 1) ds₂ old → r ≡ planned
  two_rows e = is_planned (link 3 1) ds₂ old r new e (omega arith) (in_range 3 1 (omega arith)) refl (omega arith)

  -- two rows whatever their delays, in range or not, and whatever the lent list
  pub three_offsets : (a b : ℕ) (list : List ℕ) → gives (said r) new ≡ one_slot (link 3 1) (a ∷ b ∷ []) list
      → (j : ℕ) → r ≡ thirteen j → ⊥
  three_offsets a b list e = never_thirteen (link 3 1) (a ∷ b ∷ []) list r new e (omega arith)
