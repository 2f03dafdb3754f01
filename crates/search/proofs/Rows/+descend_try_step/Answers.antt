-- `descend` goes over the candidates: an answer to those from k on, with the tests that are left, is an answer to the whole (Looping).
-- `try_step` goes one row deeper at a good candidate, and puts the row's number back where nothing was found (Trying).
use mathlib.Core.Path.{sym, ap}
use mathlib.Core.Bool.{not}
use Prim.Native.Nat.{◌+◌, ◌*◌, ◌<◌}
use native.Mathlib.Omega.{arith}
use Rattle.link.proofs.Columns.{firsts_set, seconds_set}
use Rattle.ground.proofs.Bools.{never}
use Rattle.search.proofs.Answering.{told_as}
use Rattle.search.proofs.Boards.{first_on}
use Rattle.search.proofs.Numbers.{names_at}
use Rattle.search.proofs.Looping.{whole, begins, no_more, is_broke, one_ends, one_in_vain}
use Rattle.search.proofs.Trying.{hands_over, finds, in_vain, starts_put}
use Rattle.search.proofs.Rows.+descend_try_step.Invariants.{candidates}
use Rattle.search.proofs.Rows.+descend_try_step.Goals as goal
use Rattle.search.proofs.Rows.+descend_try_step.Goals.{try_step-in-Found, try_step-in_default}

pub descend-returns-then-unplaced-eq0-clause-descended :
    goal.descend-returns-then-unplaced-eq0-clause-descended
descend-returns-then-unplaced-eq0-clause-descended t c = whole _ _ _ _ c.if-unplaced-eq0.true

pub descend-loop-k-init : goal.descend-loop-k-init
descend-loop-k-init t c = begins c.args.self.now.searchable c.if-unplaced-eq0.false c.requires c.next_step-k.ensures

pub descend-returns-then-left-eq0-clause-descended :
    goal.descend-returns-then-left-eq0-clause-descended
descend-returns-then-left-eq0-clause-descended t c = is_broke c.loop-k.invariant c.loop-k-test.true c.if-left-eq0.true

pub descend-returns-in_default : goal.descend-returns-in_default
descend-returns-in_default t c =
    record {
      descended = one_ends c.loop-k.invariant c.loop-k-test.true _ c.in_default.not-Nothing c.try_step.ensures.tried;
      starts = c.try_step.ensures.starts;
    }

pub descend-loop-k-preserved : goal.descend-loop-k-preserved
descend-loop-k-preserved t c =
    one_in_vain c.loop-k.invariant c.loop-k-test.true c.in-Nothing.ensures.tried c.in-Nothing.ensures.starts
    c.next_step-k-in-Nothing.ensures

pub descend-returns-clause-descended : goal.descend-returns-clause-descended
descend-returns-clause-descended t c = no_more c.loop-k.invariant c.loop-k-test.false

pub try_step-returns-then-not-is_free-clause-tried :
    goal.try_step-returns-then-not-is_free-clause-tried
try_step-returns-then-not-is_free-clause-tried t c =
    hands_over c.args.self.now.searchable c.requires.0 c.args.k c.requires.2 c.offset-first.ensures c.turn.ensures.0 c.is_free.ensures
    _ _ c.requires.3 (ap not c.if-not-is_free.true)

pub try_step-descend-hunt-requires : goal.try_step-descend-hunt-requires
try_step-descend-hunt-requires t c =
    let names = names_at _ _ _ c.args.k c.requires.2 in
    let h = c.args.self.now.searchable.rows in
    let less : c.args.unplaced * (candidates + 1) < t = omega (arith, c.requires.1) in
    (less, rw (firsts_set, seconds_set) (starts_put h c.requires.0 names.row_low _ c.turn.ensures.0))

pub try_step-returns-else-not-matches-clause-tried : goal.try_step-returns-else-not-matches-clause-tried
try_step-returns-else-not-matches-clause-tried t c =
    elim c.match-matches.branch [
      | try_step-in-Found w ↦ told_as (sym w.in-Found.is)
          (finds c.args.self.now.searchable c.requires.0 c.args.k c.requires.2 c.offset-first.ensures c.turn.ensures.0 c.is_free.ensures _ _
          c.requires.3 (ap not c.if-not-is_free.false) c.descend-hunt.ensures.starts
          (told_as w.in-Found.is (rw firsts_set at c.descend-hunt.ensures.descended)))
      | try_step-in_default w ↦ never (cc)
    ]

pub try_step-returns-then-not-matches : goal.try_step-returns-then-not-matches
try_step-returns-then-not-matches t c =
    elim c.match-matches.branch [
      | try_step-in-Found w ↦ never (cc)
      | try_step-in_default w ↦
          let u = in_vain c.args.self.now.searchable c.requires.0 c.args.k c.requires.2 c.offset-first.ensures c.turn.ensures.0
          c.is_free.ensures _ _ c.requires.3 (ap not c.if-not-is_free.false) c.descend-hunt.ensures.starts _ _ w.in_default.not-Found
          (rw firsts_set at c.descend-hunt.ensures.descended) in
          record { tried = rw (firsts_set, first_on) u.0; starts = rw (firsts_set, seconds_set, first_on) u.1 }
    ]
