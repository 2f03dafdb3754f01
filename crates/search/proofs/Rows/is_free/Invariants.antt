-- Invariant: no row so far blocks.
use mathlib.Core.Path.{◌≡◌}
use mathlib.Core.Bool.{false}
use Prim.Native.Nat.{ℕ, ◌<◌}
use lib.ListN.{get_or}
use Rattle.link.specs.Starts.{firsts, seconds}
use Rattle.search.specs.Search.{blocked}
use Rattle.search.proofs.Rows.is_free.Given as goal

abbrev pub invariant-loop-placed : goal.invariant-loop-placed
invariant-loop-placed l =
    (k : ℕ) → k < l.placed-index
    → blocked l.self.circle.period l.self.circle.span l.new.first l.new.second
    (get_or (firsts l.board) k 0) (get_or (seconds l.board) k 0) ≡ false
