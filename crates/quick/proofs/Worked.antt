-- Each promise used once, on document 01's worked tables. Assumes nothing.
use mathlib.Core.Path.{◌≡◌, refl, ◌∙◌}
use mathlib.Core.Bool.{false}
use mathlib.Core.List.{List, [], ◌∷◌}
use Prim.Native.Nat.{ℕ, ◌<◌}
use native.Mathlib.Omega.{arith}
use lib.ListN.{length}
use Rattle.ground.specs.Judging.{first, outside, and_then}
use Rattle.ground.specs.Least.{one_more, least}
use Rattle.ground.specs.Lent.{on_front}
use Rattle.ground.specs.Protocol.{gives}
use Rattle.link.specs.Refusal.{link_faults, row_faults, room_faults}
use Rattle.link.specs.Rows.{second, start, hits, either, free}
use Rattle.link.specs.Slots.{uses, meets}
use Rattle.link.specs.declared.Link.{Link}
use Rattle.quick.specs.Answer.{Planned, planned, thirteen, said, outcome, quick, first_fit, meta_offset}
use Rattle.quick.specs.Plan.{free_at, place, placed}
use Rattle.quick.specs.Right.{GivenPlan, NoOffset, LeastFreeOffset}
use Rattle.quick.proofs.FirstFit.{first_fit_plan, first_fit_thirteen}
use Rattle.quick.proofs.Promises.{no_second, plan_is_right, thirteen_exactly, row_0_has_one, refusal_keeps}

abbrev pub link : ℕ → ℕ → Link
link p t = record { period = p; size = t }

abbrev pub ds₁ : List ℕ
ds₁ = 0 ∷ 3 ∷ 7 ∷ []

abbrev ds₂ : List ℕ
ds₂ = 0 ∷ 2 ∷ 1 ∷ 1 ∷ []

-- a list of four places
abbrev pub old : List ℕ
old = 9 ∷ 9 ∷ 9 ∷ 9 ∷ []

abbrev pub plan₁ : List ℕ
plan₁ = 0 ∷ 2 ∷ 6 ∷ 9 ∷ []

-- "10, 2, (0 3 7): .. Meta-Offset 0 2 6"
pub multiples : gives (said planned) plan₁ ≡ meta_offset (link 10 2) ds₁ old
unfolding said quick outcome placed place free_at free hits first and_then link_faults row_faults room_faults start outside either second
    uses
    meets least one_more
multiples = refl

-- "5, 2, (0 4): First Fit 0 3."
pub fits : gives (said planned) (0 ∷ 3 ∷ 9 ∷ 9 ∷ []) ≡ first_fit (link 5 2) (0 ∷ 4 ∷ []) old
unfolding said quick outcome placed place free_at free hits first and_then link_faults row_faults room_faults start outside either second
    uses
    meets least one_more
fits = refl

-- "4, 1, (0 2 1 1): First Fit .. 13 at row 2"
gives_up : gives (said (thirteen 2)) old ≡ first_fit (link 4 1) ds₂ old
unfolding said quick outcome placed place free_at free hits first and_then link_faults row_faults room_faults start outside either second
    uses
    meets least one_more
gives_up = refl

pub right : GivenPlan (link 10 2) ds₁ old 2 5 plan₁
right = (plan_is_right (link 10 2) ds₁ old 2 5 planned plan₁ multiples).0 refl

pub right_rows_are_planned : (r : Planned) (new : List ℕ) → gives (said r) new ≡ meta_offset (link 10 2) ds₁ old → r ≡ planned
right_rows_are_planned r new e =
    (plan_is_right (link 10 2) ds₁ old 2 5 r new e).1 (record {
      table = right.table;
      room = right.room;
      offsets = right.offsets;
      right = right.right;
      written = (no_second (link 10 2) ds₁ old 2 5 r planned new plan₁ e multiples).1 ∙ right.written;
      clear = right.clear;
    })

pub no_offset : NoOffset (link 4 1) ds₂ old 1 4 2
no_offset = (thirteen_exactly (link 4 1) ds₂ old 1 4 (thirteen 2) old gives_up 2).0 refl

pub kept : (new : List ℕ) → gives (said (thirteen 2)) new ≡ first_fit (link 4 1) ds₂ old → new ≡ old
kept new e = refusal_keeps (link 4 1) ds₂ old 1 4 (thirteen 2) new e _ refl

pub never_row_0 : (r : Planned) (new : List ℕ) → gives (said r) new ≡ first_fit (link 4 1) ds₂ old → r ≡ thirteen 0 → ⊥
never_row_0 r new e = row_0_has_one (link 4 1) ds₂ old 1 4 r new e (omega arith)

pub least_offsets : (os : List ℕ) × (length os ≡ 2) × (0 ∷ 3 ∷ 9 ∷ 9 ∷ [] ≡ on_front os old)
    × ((j : ℕ) → j < 2 → LeastFreeOffset 5 2 (0 ∷ 4 ∷ []) os j)
least_offsets = first_fit_plan (link 5 2) (0 ∷ 4 ∷ []) old planned (0 ∷ 3 ∷ 9 ∷ 9 ∷ []) fits refl

pub none_free : (os : List ℕ) × ((i : ℕ) → i < 2 → LeastFreeOffset 4 1 ds₂ os i) × ((a : ℕ) → a < 4 → free 4 1 ds₂ os 2 1 a ≡ false)
none_free = first_fit_thirteen (link 4 1) ds₂ old (thirteen 2) old gives_up 2 refl
