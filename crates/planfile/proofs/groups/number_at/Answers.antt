-- The groups before this one, then what this one says, and, where its top bit is set, what the groups after it say.
use mathlib.Core.Path.{◌≡◌, sym, ◌∙◌}
use mathlib.Core.Logic.{⊎_elim}
use mathlib.Core.List.{append-nil}
use Prim.Native.Nat.{◌≤◌}
use native.Mathlib.Omega.{arith}
use lib.ListN.{length, drop}
use lib.Seq.{drop-length}
use Rattle.std.proofs.lemmas.List.Folds.{drop_split}
use borrow.Author.Rules.{rules}
use Rattle.std.specs.Prelude.{Err}
use Rattle.planfile.specs.Number.{number_said, read_number}
use Rattle.planfile.specs.declared.Malformed.TheVariants.{Cut}
use Rattle.planfile.proofs.Numbers.{ended, summing_none, summing_ended, summing_value, summing_needless, summing_too_long, summing_more}
use Rattle.planfile.proofs.groups.number_at.Goals.{In_ok-groups}
use Rattle.planfile.proofs.groups.number_at.Goals as goal

-- the bytes from the place on
tail : (c : In_ok-groups) → c.in_ok-groups.groups.now ≡ drop c.args.at c.args.bytes.now
tail c =
    let some = (rw c.in_ok-groups.ensures.ok_part at c.get.ensures.lookup).0 in
    some.2 ∙ sym (drop_split _ _ _ some.0 ∙ rw drop-length (append-nil _))

pub returns-in_err-groups : goal.returns-in_err-groups
unfolding number_said read_number
returns-in_err-groups c =
    let e : c.from_residual.result ≡ Err Cut = search rules in
    let none = (rw c.in_err-groups.ensures.ok_part at c.get.ensures.lookup).0 in
    let behind : length c.args.bytes.now ≤ c.args.at = ⊎_elim (λ h. omega arith) (λ h. omega arith) none in
    rw e (ended _ _ _ _ behind)

pub loop-i-init : goal.loop-i-init
loop-i-init c = summing_none _

pub returns-then-i-gt0 : goal.returns-then-i-gt0
unfolding number_said
returns-then-i-gt0 c =
    rw (sym (tail (goal.at.returns-then-i-gt0 c).In_ok-groups))
    (summing_needless _ _ _ _ c.loop-i.invariant c.loop-i-test.true (rw c.from-b.ensures at c.if-b-eq0.true) c.if-i-gt0.true)

pub returns-then-b-lt-GROUP : goal.returns-then-b-lt-GROUP
unfolding number_said
returns-then-b-lt-GROUP c =
    rw (sym (tail (goal.at.returns-then-b-lt-GROUP c).In_ok-groups), c.from-b.ensures)
    (summing_value _ _ _ _ c.loop-i.invariant c.loop-i-test.true (rw c.from-b.ensures at c.if-b-lt-GROUP.true)
    (rw c.from-b.ensures at c.else-b-eq0.either))

pub returns-then-i-eq-MORE_GROUPS : goal.returns-then-i-eq-MORE_GROUPS
unfolding number_said
returns-then-i-eq-MORE_GROUPS c =
    rw (sym (tail (goal.at.returns-then-i-eq-MORE_GROUPS c).In_ok-groups))
    (summing_too_long _ _ _ _ c.loop-i.invariant c.loop-i-test.true (rw c.from-b.ensures at c.if-b-lt-GROUP.false)
    c.if-i-eq-MORE_GROUPS.true)

pub loop-i-preserved : goal.loop-i-preserved
loop-i-preserved c =
    rw c.from-b.ensures
    (summing_more _ _ _ _ c.loop-i.invariant c.loop-i-test.true (rw c.from-b.ensures at c.if-b-lt-GROUP.false) c.if-i-eq-MORE_GROUPS.false)

pub returns : goal.returns
unfolding number_said
returns c =
    rw (sym (tail (goal.at.returns c).In_ok-groups)) (summing_ended _ _ _ _ c.loop-i.invariant c.loop-i-test.false)
