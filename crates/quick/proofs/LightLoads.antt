-- A promise for light loads: there no quick planner gives 13, whatever the delays. Assumes nothing.
use mathlib.Core.Path.{◌≡◌}
use mathlib.Core.List.{List}
use Prim.Native.Nat.{ℕ, ◌/◌, ◌≤◌}
use lib.ListN.{length}
use Rattle.ground.specs.Protocol.{gives}
use Rattle.link.specs.Range.{GoodTable}
use Rattle.link.specs.Rows.{span_of}
use Rattle.link.specs.declared.Link.{Link}
use Rattle.quick.specs.Answer.{Planned, planned, thirteen, said, quick, first_fit, meta_offset}
use Rattle.quick.specs.Loads.{LightLoad, ThirdLoad, FirstFitLoad, SimpleLoad}
use Rattle.quick.specs.Plan.{Progress}
use Rattle.quick.specs.Right.{Placed}
use Rattle.quick.proofs.Enough.{third_is_light, light_for_first_fit, simple_for_first_fit}
use Rattle.quick.proofs.Enough.{NoneStuck, multiples_enough, offsets_enough}
use Rattle.quick.proofs.Promises.{right_plan, thirteen_exactly}
use Rattle.quick.proofs.Sound.{Says, all, some_row, says}

module _ (k : Link) (ds : List ℕ) where
  -- rows placed right, all of them
  abbrev AllPlaced : ℕ → ℕ → Type 0
  AllPlaced step count = (os : List ℕ) × Placed k.period (span_of k) ds step count (length ds) os

  all_placed : (step count : ℕ) → NoneStuck k ds step count → AllPlaced step count
  all_placed step count enough = go (says k.period (span_of k) ds step count (length ds))
    where
      go : {o : Progress} → Says k.period (span_of k) ds step count (length ds) o → AllPlaced step count
      go (all os w) = (os, w)
      go (some_row j l s) = absurd (enough j l s)

  -- a table in range with a light load has a clear plan: each row on its least free multiple
  pub light_has_a_plan : GoodTable k ds → LightLoad k ds → AllPlaced (span_of k) (k.period / span_of k)
  light_has_a_plan g h = all_placed _ _ (multiples_enough k ds g h)

  module _ (old : List ℕ) (r : Planned) (new : List ℕ) where
    module _ (step count : ℕ) (e : gives (said r) new ≡ quick k ds old step count)
        (enough : GoodTable k ds → NoneStuck k ds step count) where
      never_thirteen : (j : ℕ) → r ≡ thirteen j → ⊥
      never_thirteen j c = let w = (thirteen_exactly k ds old step count r new e j).0 c in enough w.table j w.row w.stuck

      is_planned : GoodTable k ds → length ds ≤ length old → r ≡ planned
      is_planned g room = let w = all_placed step count (enough g) in right_plan k ds old step count r new e g room w.0 w.1

    module _ (e : gives (said r) new ≡ meta_offset k ds old) where
      -- "Meta-Offset never gives 13 when P divided by T, rounded down, is at least 3n-2, whatever the delays"
      pub light_never_thirteen : LightLoad k ds → (j : ℕ) → r ≡ thirteen j → ⊥
      light_never_thirteen h = never_thirteen _ _ e (λ g. multiples_enough k ds g h)

      -- so a table in range, with room for its offsets, gets a plan
      pub light_is_planned : LightLoad k ds → GoodTable k ds → length ds ≤ length old → r ≡ planned
      light_is_planned h = is_planned _ _ e (λ g. multiples_enough k ds g h)

      -- "the macro-slot method works when 3nT is at most P"
      pub third_is_planned : ThirdLoad k ds → GoodTable k ds → length ds ≤ length old → r ≡ planned
      third_is_planned h g = light_is_planned (third_is_light k ds g h) g

    module _ (e : gives (said r) new ≡ first_fit k ds old) where
      -- First Fit never gives 13 when P is above (3n-2)T - n
      pub first_fit_never_thirteen : FirstFitLoad k ds → (j : ℕ) → r ≡ thirteen j → ⊥
      first_fit_never_thirteen h = never_thirteen 1 k.period e (λ g. offsets_enough k ds g h)

      pub first_fit_is_planned : FirstFitLoad k ds → GoodTable k ds → length ds ≤ length old → r ≡ planned
      first_fit_is_planned h = is_planned 1 k.period e (λ g. offsets_enough k ds g h)

      -- so a light load is enough for First Fit too, and so is (n-1)(4T-2) below P
      pub first_fit_light : LightLoad k ds → GoodTable k ds → length ds ≤ length old → r ≡ planned
      first_fit_light h g = first_fit_is_planned (light_for_first_fit k ds g h) g

      pub first_fit_simple : SimpleLoad k ds → GoodTable k ds → length ds ≤ length old → r ≡ planned
      first_fit_simple h g = first_fit_is_planned (simple_for_first_fit k ds g h) g
