-- 23, then 11 for either list.
use borrow.Author.Tests.{lt-ltb, le-ltb}
use Rattle.ground.proofs.Faults.{hit, pass, fine}
use Rattle.joined.specs.Answer.{call_faults}
use Rattle.joined.proofs.judge.Goals as goal
use Rattle.joined.proofs.judge.Goals.{then-numbers-via-then-numbers, then-numbers-via-else-numbers+then-offsets}

pub returns-then-bytes-gt-MAX_JOINED : goal.returns-then-bytes-gt-MAX_JOINED
unfolding call_faults
returns-then-bytes-gt-MAX_JOINED c = hit _ _ _ _ (lt-ltb _ _ c.if-bytes-gt-MAX_JOINED.true)

pub returns-then-numbers : goal.returns-then-numbers
unfolding call_faults
returns-then-numbers c = pass _ _ _ _ (le-ltb _ _ c.if-bytes-gt-MAX_JOINED.false) (elim c.then-numbers.branch [
  | then-numbers-via-then-numbers w ↦ hit _ _ _ _ (rw (lt-ltb _ _ w.if-numbers.true))
  | then-numbers-via-else-numbers+then-offsets w ↦ hit _ _ _ _ (rw (le-ltb _ _ w.if-numbers.false) (lt-ltb _ _ w.if-offsets.true))
])

pub returns : goal.returns
unfolding call_faults
returns c =
    pass _ _ _ _ (le-ltb _ _ c.if-bytes-gt-MAX_JOINED.false)
    (pass _ _ _ _ (rw (le-ltb _ _ c.if-numbers.false) (le-ltb _ _ c.if-offsets.false)) fine)
