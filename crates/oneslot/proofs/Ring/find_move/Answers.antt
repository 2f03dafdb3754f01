-- The rows are asked one after the other, and the first that gives way is the least.
use Prim.Native.Nat.{ℕ}
use lib.ListN.{length, get_or}
use borrow.Author.Rules.{rules}
use Rattle.link.specs.Starts.{firsts, seconds}
use Rattle.oneslot.specs.Others.{without, fits, can_move}
use Rattle.oneslot.proofs.Finding.{asked}
use Rattle.oneslot.proofs.Ring.find_move.Goals as goal

pub returns : goal.returns
unfolding can_move
returns c =
    let a = c.args in
    let rows = λ (k : ℕ). fits a.self.circle.period a.self.circle.span (get_or a.delays.now k 0) a.delay
    (without k (firsts a.starts.now)) (without k (seconds a.starts.now)) in
    rw c.requires.0 (asked a.self.circle.period rows (length a.delays.now) c.find_map.result (search rules))
