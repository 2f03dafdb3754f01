-- What the two answers on the way show. Assumes nothing.
use mathlib.Core.Path.{◌≡◌, ap}
use mathlib.Core.List.{List}
use Prim.Native.Nat.{ℕ, ◌≤◌}
use lib.ListN.{length}
use Rattle.std.specs.Prelude.{Result, Ok}
use Rattle.ground.specs.declared.Fault.{Fault}
use Rattle.search.specs.Limits.{max_exact_rows}
use Rattle.ground.specs.Protocol.{Outcome, gives}
use Rattle.link.specs.declared.Link.{Link}
use Rattle.search.proofs.Verdicts.{means}
use Rattle.text.proofs.Promises.{accepted_is_the_text}
use Rattle.text.specs.Answer as reader
use Rattle.text.specs.declared.Table.{Table}
use Rattle.search.specs.Answer.{Said, said, Answers}
use Rattle.search.specs.Ceilings.{ceiling_up_to}
use Rattle.search.specs.declared.Answer.{Answer}
use Rattle.search.specs.declared.Answer.TheVariants.{Plan}
use Rattle.console.specs.Printed.{blank, shown, planned, printed_as, printed}

module _ (k : Link) (ds : List ℕ) (budget : ℕ) (r : Result Answer Fault) (new : List ℕ) (a : Answers k ds budget blank r new) where
  -- the planner's answer s, shown
  pub planned_as : (s : Result Answer Fault) → r ≡ s → budget ≡ ceiling_up_to (length ds)
      → shown (gives (said s) new) (length ds) ≡ planned k ds (length ds)
  unfolding planned
  planned_as s e b = ap (λ (o : Outcome Said (List ℕ)). shown o (length ds)) (rw (e, b) at a)

  -- a plan is for few rows
  pub plan_few : (t : ℕ) → r ≡ Ok (Plan t) → length ds ≤ max_exact_rows
  plan_few t e = (means k ds budget blank (Ok (Plan t)) new (rw e at a)).good.few

module _ (x : List ℕ) (r : Result Table Fault) (new : List ℕ) (a : gives (reader.said r) new ≡ reader.reading x blank) where
  -- the reader's answer s, printed
  pub printed_as_lem : (s : Result Table Fault) → r ≡ s → printed_as (reader.said s).verdict (gives (reader.said s) new) ≡ printed x
  unfolding printed
  printed_as_lem s e = ap (λ (o : Outcome reader.Said (List ℕ)). printed_as o.says.verdict o) (rw e at a)

  -- the rows read are no more than there is room for
  pub rows_few : (t : Table) → r ≡ Ok t → t.rows ≤ length blank
  rows_few t e = (accepted_is_the_text x blank t new (rw e at a)).room
