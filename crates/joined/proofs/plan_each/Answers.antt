use Rattle.std.specs.Prelude.{◌≡◌, ℕ, Result, Ok, Err}
use mathlib.Core.Path.{refl}
use native.Mathlib.Omega.{arith}
use borrow.Author.Rules.{rules}
use Rattle.ground.specs.Protocol.{gives}
use Rattle.ground.specs.declared.Fault.{Fault}
use Rattle.ground.proofs.Bools.{never}
use Rattle.joined.specs.Limits.{max_texts}
use Rattle.joined.specs.Answer.{said, lists, running}
use Rattle.joined.proofs.Walk.{start, back_from, all_done, too_many, fault_here, next}
use Rattle.joined.proofs.plan_each.Goals as goal

pub loop-t-init : goal.loop-t-init
loop-t-init c = start _ _ _ c.requires.0 c.requires.1

pub returns-then-at-texts : goal.returns-then-at-texts
unfolding said
returns-then-at-texts c = all_done _ _ _ _ _ _ c.loop-t.invariant c.if-at-texts.true

pub returns-in_err-at : goal.returns-in_err-at
unfolding said
returns-in_err-at c = go c.plan_text.result refl
  where
    go : (r : Result ℕ Fault) → c.plan_text.result ≡ r
        → gives (said c.from_residual.result)
        (back_from c.loop-t.t-counter (lists c.loop-t.answers c.loop-t.offsets) (lists c.plan_text.new.answers c.plan_text.new.offsets))
        ≡ running c.args.texts.now c.args.budget (lists c.args.answers.now c.args.offsets.now)
    go (Ok n) e = let told = rw (e, c.in_err-at.was) at c.map_err.ensures.cases in never cc
    go (Err f) e =
        let told = rw (e, c.in_err-at.was) at c.map_err.ensures.cases in
        let stopped : c.from_residual.result ≡ Err (record { texts = c.loop-t.t-counter; fault = f }) = search rules in
        rw stopped
        (fault_here _ _ _ _ _ _ c.loop-t.invariant c.loop-t-test.true _ c.if-at-texts.false _ _ (rw e at c.plan_text.ensures))

pub loop-t-preserved : goal.loop-t-preserved
loop-t-preserved c =
    let e : c.plan_text.result ≡ Ok c.in_ok-at.at = search rules in
    next _ _ _ _ _ _ c.loop-t.invariant c.loop-t-test.true _ c.if-at-texts.false _ c.plan_text.auto.answers c.plan_text.auto.offsets
    (rw e at c.plan_text.ensures)

pub returns-then-at-texts-2 : goal.returns-then-at-texts-2
unfolding said
returns-then-at-texts-2 c =
    let all : c.loop-t.t-counter ≡ max_texts = omega arith in
    too_many _ _ _ _ _ _ (rw all at c.loop-t.invariant) (omega arith) c.if-at-texts-2.true

pub returns : goal.returns
unfolding said
returns c =
    let all : c.loop-t.t-counter ≡ max_texts = omega arith in
    all_done _ _ _ _ _ _ (rw all at c.loop-t.invariant) c.if-at-texts-2.false
