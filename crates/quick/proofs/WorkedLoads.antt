-- Light loads on tables: the manual's site of 12 heads, and tables just below the bounds that get 13. Assumes nothing.
use mathlib.Core.Path.{◌≡◌, refl, ◌∙◌}
use mathlib.Core.List.{List, [], ◌∷◌}
use Prim.Native.Nat.{ℕ, ◌≤◌}
use native.Mathlib.Omega.{arith}
use Rattle.ground.specs.Count.{count, sum}
use Rattle.ground.specs.Judging.{first, outside, and_then}
use Rattle.ground.specs.Least.{one_more, least}
use Rattle.ground.specs.Protocol.{gives}
use Rattle.ground.specs.Series.{from}
use Rattle.link.specs.Range.{GoodTable}
use Rattle.link.specs.Refusal.{link_faults, row_faults, room_faults}
use Rattle.link.specs.Rows.{second, start, hits, either, free}
use Rattle.link.specs.Slots.{uses, meets}
use Rattle.link.proofs.Accepted.{good_room}
use Rattle.quick.specs.Answer.{Planned, planned, thirteen, said, outcome, quick, first_fit, meta_offset}
use Rattle.quick.specs.Loads.{named_for, full_for_meta_offset, full_for_first_fit}
use Rattle.quick.specs.Plan.{free_at, place, placed}
use Rattle.quick.specs.Right.{Stuck}
use Rattle.quick.proofs.Enough.{third_is_light}
use Rattle.quick.proofs.FirstFit.{one_slot_same}
use Rattle.quick.proofs.LightLoads.{light_never_thirteen, light_is_planned, third_is_planned}
use Rattle.quick.proofs.LightLoads.{first_fit_never_thirteen, first_fit_is_planned, first_fit_light, first_fit_simple}
use Rattle.quick.proofs.Losing.{all_named}
use Rattle.quick.proofs.Promises.{thirteen_exactly}
use Rattle.quick.proofs.Sharp.{meta_offset_sharp, first_fit_sharp}
use Rattle.quick.proofs.Worked.{link, old}

-- the manual's site, and a list of 12 places
abbrev heads : List ℕ
heads = 120 ∷ 340 ∷ 95 ∷ 610 ∷ 47 ∷ 883 ∷ 256 ∷ 731 ∷ 508 ∷ 19 ∷ 662 ∷ 404 ∷ []

abbrev places : List ℕ
places = 0 ∷ 0 ∷ 0 ∷ 0 ∷ 0 ∷ 0 ∷ 0 ∷ 0 ∷ 0 ∷ 0 ∷ 0 ∷ 0 ∷ []

delays_in_range : GoodTable (link 1000 1) heads
unfolding first and_then link_faults row_faults room_faults outside least one_more
delays_in_range = (good_room (link 1000 1) heads 12 refl).0

-- it is in range with each period and size
site : (p t : ℕ) → (1 ≤ t) × (t ≤ p) × (p ≤ 1000000) → GoodTable (link p t) heads
site p t h =
    record {
      period_low = omega (arith, h);
      period_high = h.2;
      span_low = h.0;
      span_high = h.1;
      rows_low = omega arith;
      rows_high = omega arith;
      delays = delays_in_range.delays;
    }

module _ (r : Planned) (new : List ℕ) where
  -- at size 29 both planners have a plan: 1,000 divided by 29 is 34, which is 3n-2
  pub twelve_heads : gives (said r) new ≡ meta_offset (link 1000 29) heads places → r ≡ planned
  twelve_heads e = light_is_planned (link 1000 29) heads places r new e (omega arith) (site 1000 29 (omega arith)) (omega arith)

  pub twelve_heads_first_fit : gives (said r) new ≡ first_fit (link 1000 29) heads places → r ≡ planned
  twelve_heads_first_fit e =
      first_fit_light (link 1000 29) heads places r new e (omega arith) (site 1000 29 (omega arith)) (omega arith)

  -- the rules of thumb: 3 times 12 times 27 is 972, and 11 times 90 is 990
  pub twelve_heads_a_third : gives (said r) new ≡ meta_offset (link 1000 27) heads places → r ≡ planned
  twelve_heads_a_third e =
      third_is_planned (link 1000 27) heads places r new e (omega arith) (site 1000 27 (omega arith)) (omega arith)

  pub twelve_heads_a_third_first_fit : gives (said r) new ≡ first_fit (link 1000 27) heads places → r ≡ planned
  twelve_heads_a_third_first_fit e =
      let good = site 1000 27 (omega arith) in
      first_fit_light (link 1000 27) heads places r new e (third_is_light (link 1000 27) heads good (omega arith)) good (omega arith)

  pub twelve_heads_simple : gives (said r) new ≡ first_fit (link 1000 23) heads places → r ≡ planned
  twelve_heads_simple e =
      first_fit_simple (link 1000 23) heads places r new e (omega arith) (site 1000 23 (omega arith)) (omega arith)

  -- at size 30 there are 33 multiples, and 12 delays that get 13
  pub twelve_heads_refused : gives (said r) new ≡ meta_offset (link 1000 30) (full_for_meta_offset 1000 30 11) places → r ≡ thirteen 11
  twelve_heads_refused =
      meta_offset_sharp 1000 30 11 (omega arith) (omega arith) (omega arith) (omega arith) refl places (omega arith) r new

  -- two rows of size 2 whatever their delays, in range or not, and whatever the lent list
  pub four_multiples : (a b : ℕ) (list : List ℕ) → gives (said r) new ≡ meta_offset (link 8 2) (a ∷ b ∷ []) list
      → (j : ℕ) → r ≡ thirteen j → ⊥
  four_multiples a b list e = light_never_thirteen (link 8 2) (a ∷ b ∷ []) list r new e (omega arith)

  pub seven_offsets : (a b : ℕ) (list : List ℕ) → gives (said r) new ≡ first_fit (link 7 2) (a ∷ b ∷ []) list
      → (j : ℕ) → r ≡ thirteen j → ⊥
  seven_offsets a b list e = first_fit_never_thirteen (link 7 2) (a ∷ b ∷ []) list r new e (omega arith)

  -- (3n-2)T - n is 974 for 12 rows of size 29, and 11 for three of size 2
  pub twelve_heads_closer : gives (said r) new ≡ first_fit (link 975 29) heads places → r ≡ planned
  twelve_heads_closer e =
      first_fit_is_planned (link 975 29) heads places r new e (omega arith) (site 975 29 (omega arith)) (omega arith)

  pub eleven_offsets : gives (said r) new ≡ first_fit (link 11 2) (full_for_first_fit 11 2 2) old → r ≡ thirteen 2
  eleven_offsets = first_fit_sharp 11 2 2 (omega arith) (omega arith) (omega arith) (omega arith) refl old (omega arith) r new

  -- four rows of one slot with seven offsets: Meta-Offset goes by First Fit's number, 2n-2, which is 6
  pub seven_one_slot_offsets : (a b c d : ℕ) (list : List ℕ) → gives (said r) new ≡ meta_offset (link 7 1) (a ∷ b ∷ c ∷ d ∷ []) list
      → (j : ℕ) → r ≡ thirteen j → ⊥
  seven_one_slot_offsets a b c d list e =
      let ds = a ∷ b ∷ c ∷ d ∷ [] in
      first_fit_never_thirteen (link 7 1) ds list r new (e ∙ one_slot_same (link 7 1) ds list refl) (omega arith)

-- the tables of twelve-heads-refused and eleven-offsets by their numbers
pub twelve_delays : full_for_meta_offset 1000 30 11 ≡ 1 ∷ 31 ∷ 61 ∷ 91 ∷ 121 ∷ 151 ∷ 181 ∷ 211 ∷ 241 ∷ 271 ∷ 301 ∷ 670 ∷ []
unfolding from
twelve_delays = refl

pub three_delays : full_for_first_fit 11 2 2 ≡ 1 ∷ 2 ∷ 7 ∷ []
unfolding from
three_delays = refl

-- computed: "6, 2, (0 3)" has three multiples and six offsets, "12, 2, (0 2 7)" has six multiples, 11, 2, (0 1 6) eleven offsets
pub three_multiples : gives (said (thirteen 1)) old ≡ meta_offset (link 6 2) (0 ∷ 3 ∷ []) old
unfolding said quick outcome placed place free_at free hits first and_then link_faults row_faults room_faults start outside either second
    uses
    meets least one_more
three_multiples = refl

-- row 1 of it has lost all three to row 0
pub stuck₁ : Stuck 6 2 (0 ∷ 3 ∷ []) 2 3 1
stuck₁ = ((thirteen_exactly (link 6 2) (0 ∷ 3 ∷ []) old 2 3 (thirteen 1) old three_multiples 1).0 refl).stuck

pub three_lost : named_for 6 2 (0 ∷ 3 ∷ []) (0 ∷ []) 2 3 1 0 ≡ 3
unfolding named_for count hits start either second uses meets least one_more
three_lost = refl

pub lost_to_row_0 : sum (named_for 6 2 (0 ∷ 3 ∷ []) stuck₁.offsets 2 3 1) 1 ≡ 3
lost_to_row_0 = all_named 6 2 (0 ∷ 3 ∷ []) 2 3 1 stuck₁

pub six_offsets : gives (said (thirteen 1)) old ≡ first_fit (link 6 2) (0 ∷ 3 ∷ []) old
unfolding said quick outcome placed place free_at free hits first and_then link_faults row_faults room_faults start outside either second
    uses
    meets least one_more
six_offsets = refl

pub six_multiples : gives (said (thirteen 2)) old ≡ meta_offset (link 12 2) (0 ∷ 2 ∷ 7 ∷ []) old
unfolding said quick outcome placed place free_at free hits first and_then link_faults row_faults room_faults start outside either second
    uses
    meets least one_more
six_multiples = refl

pub eleven_computed : gives (said (thirteen 2)) old ≡ first_fit (link 11 2) (0 ∷ 1 ∷ 6 ∷ []) old
unfolding said quick outcome placed place free_at free hits first and_then link_faults row_faults room_faults start outside either second
    uses
    meets least one_more
eleven_computed = refl
