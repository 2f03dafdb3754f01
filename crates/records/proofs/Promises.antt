-- What the checker over records promises. Assumes nothing.
use mathlib.Core.Path.{◌≡◌, sym, ◌∙◌, ap}
use mathlib.Core.Logic.{◌↔◌}
use mathlib.Core.List.{List}
use Prim.Native.Nat.{ℕ}
use Rattle.std.specs.Prelude.{Some, None, Ok, Err}
use Rattle.ground.specs.declared.Refusal.TheVariants.{BadLength}
use Rattle.link.specs.Range.{GoodPlan}
use Rattle.link.specs.Rows.{span_of, Clear}
use Rattle.link.specs.Starts.{crossing_number}
use Rattle.link.specs.declared.Link.{Link}
use Rattle.checker.specs.Answer.{Checked, said, answer}
use Rattle.checker.specs.Order.{FirstCollision}
use Rattle.checker.specs.declared.Collision.{Collision}
use Rattle.checker.proofs.Promises as checker
use Rattle.records.specs.Columns.{delays_of, offsets_of}
use Rattle.records.specs.declared.Record.{Record}
use Rattle.records.proofs.Columns.{one_each}
use Rattle.records.proofs.NoLength.{never}

module _ (k : Link) (rs : List Record) (r : Checked) (e : said r ≡ answer k (delays_of rs) (offsets_of rs)) where
  -- no second answer meets the contract
  pub no_second : (s : Checked) → said s ≡ answer k (delays_of rs) (offsets_of rs) → r ≡ s
  no_second s = checker.no_second k (delays_of rs) (offsets_of rs) r s e

  -- "and gives the same answer": whatever `check` answers on the delays and the offsets as separate lists
  pub agrees : (ds os : List ℕ) (s : Checked) → delays_of rs ≡ ds → offsets_of rs ≡ os → said s ≡ answer k ds os → r ≡ s
  agrees ds os s d o h = no_second s (rw (d, o) h)

  -- so the checker's promises are its own
  pub clear_exactly : (r ≡ Ok None)
      ↔ (GoodPlan k (delays_of rs) (offsets_of rs) × Clear k.period (span_of k) (delays_of rs) (offsets_of rs))
  clear_exactly = checker.clear_exactly k (delays_of rs) (offsets_of rs) r e

  pub collision_is_first : (x : Collision) → r ≡ Ok (Some x)
      → GoodPlan k (delays_of rs) (offsets_of rs)
      × FirstCollision k.period (span_of k) (delays_of rs) (offsets_of rs) x.earlier x.later (crossing_number x.crossing)
  collision_is_first = checker.collision_is_first k (delays_of rs) (offsets_of rs) r e

  -- 11 cannot arise: a record has one of each
  pub never_length : (p : ℕ) → r ≡ Err (record { refusal = BadLength; place = p }) → ⊥
  unfolding said
  never_length p f = never k (delays_of rs) (offsets_of rs) (one_each rs) p (sym (ap said f) ∙ e)
