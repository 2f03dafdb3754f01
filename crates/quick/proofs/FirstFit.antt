-- First Fit by name: "First Fit gives each row the least free offset", and 13 only where a row has none. Assumes nothing.
use mathlib.Core.Path.{◌≡◌, ◌∙◌}
use mathlib.Core.Bool.{false}
use mathlib.Core.List.{List}
use Prim.Native.Nat.{ℕ, ◌*◌, ◌<◌}
use native.Mathlib.Omega.{arith}
use native.Mathlib.Nat.{mul-one, div-one}
use lib.ListN.{length, get_or}
use Rattle.ground.specs.Lent.{on_front}
use Rattle.ground.specs.Protocol.{gives}
use Rattle.link.specs.Rows.{span_of, free}
use Rattle.link.specs.declared.Link.{Link}
use Rattle.quick.specs.Plan.{free_at}
use Rattle.quick.specs.Right.{LeastFree, Placed, LeastFreeOffset}
use Rattle.quick.specs.Answer.{Planned, planned, thirteen, said, first_fit, meta_offset}
use Rattle.quick.proofs.Promises.{plan_is_right, thirteen_exactly}

module _ (p l : ℕ) (ds os : List ℕ) where
  -- with steps of one slot the candidates are the offsets
  at_one : (j c : ℕ) → get_or os j 0 ≡ c * 1 → LeastFree p l ds 1 p os j c → LeastFreeOffset p l ds os j
  unfolding free_at
  at_one j c e f =
      let same : get_or os j 0 ≡ c = e ∙ mul-one c in
      record {
        low = omega (arith, f.candidate);
        is_free = rw e f.is_free;
        least = λ a h. rw (mul-one a) at (f.least a (omega arith));
      }

  pub each_least : (n : ℕ) → Placed p l ds 1 p n os → (j : ℕ) → j < n → LeastFreeOffset p l ds os j
  each_least n w j h = let f = w.each j h in at_one j f.0 f.1 f.2

module _ (k : Link) (ds old : List ℕ) (r : Planned) (new : List ℕ) (e : gives (said r) new ≡ first_fit k ds old) where
  abbrev Right : List ℕ → ℕ → Type 0
  Right os j = LeastFreeOffset k.period (span_of k) ds os j

  pub first_fit_plan : r ≡ planned
      → (os : List ℕ) × (length os ≡ length ds) × (new ≡ on_front os old) × ((j : ℕ) → j < length ds → Right os j)
  first_fit_plan c =
      let w = (plan_is_right k ds old 1 k.period r new e).0 c in
      (w.offsets, w.right.as_many, w.written, each_least k.period (span_of k) ds w.offsets (length ds) w.right)

  -- 13 at row j: the rows before have their least free offsets, and no offset is free for row j
  pub first_fit_thirteen : (j : ℕ) → r ≡ thirteen j
      → (os : List ℕ) × ((i : ℕ) → i < j → Right os i)
      × ((a : ℕ) → a < k.period → free k.period (span_of k) ds os j (get_or ds j 0) a ≡ false)
  unfolding free_at
  first_fit_thirteen j c =
      let w = ((thirteen_exactly k ds old 1 k.period r new e j).0 c).stuck in
      (w.offsets, each_least k.period (span_of k) ds w.offsets j w.before, λ a h. rw (mul-one a) at (w.none a h))

-- with messages of one slot both planners look at the same offsets
pub one_slot_same : (k : Link) (ds old : List ℕ) → span_of k ≡ 1 → meta_offset k ds old ≡ first_fit k ds old
one_slot_same k ds old h = rw (h, div-one)
