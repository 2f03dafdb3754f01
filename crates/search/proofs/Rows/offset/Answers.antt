-- In crossing 1 the row starts right after the other; in crossing 2 the offset is that start turned back by the delay.
use mathlib.Core.Path.{sym, ap, ◌∙◌}
use Prim.Native.Nat.{◌/◌, ◌%◌}
use native.Mathlib.Omega.{arith}
use lib.ListN.{get_or}
use Rattle.link.specs.Limits.{max_rows}
use Rattle.link.specs.Rows.{second}
use Rattle.link.specs.Starts.{firsts}
use Rattle.link.proofs.Meeting.{second_low}
use Rattle.search.proofs.Boards.{first_on, second_on}
use Rattle.search.proofs.Numbers.{names_at, puts_one, puts_two}
use Rattle.search.proofs.Rows.offset.Goals as goal

pub turn-requires : goal.turn-requires
turn-requires c =
    let t = c.args.self.now.searchable in
    let h = (names_at _ _ _ c.args.k c.requires.1).beside_placed in
    omega (arith, first_on c.args.board.now (c.args.k / 2 % max_rows))

pub returns-then-k-eq0 : goal.returns-then-k-eq0
returns-then-k-eq0 c =
    let beside = first_on c.args.board.now (c.args.k / 2 % max_rows) in
    (c.turn.ensures.0 ∙ ap (second _ _) beside ∙ sym (puts_one _ _ _ _ _ c.if-k-eq0.true), omega arith)

pub turn-second-requires : goal.turn-second-requires
turn-second-requires c =
    let t = c.args.self.now.searchable in
    let w = names_at _ _ _ c.args.k c.requires.1 in
    let q = c.requires.0.seconds (c.args.k / 2 % max_rows) w.beside_low w.beside_placed in
    let h = second_low c.args.self.now.circle.period (get_or c.args.self.now.delays (c.args.k / 2 % max_rows) 0)
    (get_or (firsts c.args.board.now) (c.args.k / 2 % max_rows) 0) (omega (arith, t)) in
    omega (arith, t, second_on c.args.board.now (c.args.k / 2 % max_rows))

pub bounds-self-k : goal.bounds-self-k
bounds-self-k c =
    let t = c.args.self.now.searchable in
    let w = (names_at _ _ _ c.args.k c.requires.1).row_low in
    omega (arith, t)

pub returns : goal.returns
returns c =
    let w = names_at _ _ _ c.args.k c.requires.1 in
    let q = c.requires.0.seconds (c.args.k / 2 % max_rows) w.beside_low w.beside_placed in (
      puts_two _ _ _ _ c.args.k c.if-k-eq0.false (c.args.self.now.searchable.delays _) _ _ _
          (second_on c.args.board.now (c.args.k / 2 % max_rows) ∙ q) c.turn-second.ensures.0 c.turn-2.ensures.0,
      omega arith,
    )
