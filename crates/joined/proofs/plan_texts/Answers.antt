-- A fault of the call, with no text answered; or the run.
use Rattle.std.specs.Prelude.{◌≡◌, Result, Ok, Err}
use mathlib.Core.Path.{refl, sym, ◌∙◌}
use borrow.Author.Rules.{rules}
use Rattle.ground.specs.Protocol.{gives}
use Rattle.ground.specs.declared.Fault.{Fault}
use Rattle.ground.proofs.Bools.{never}
use Rattle.joined.specs.Answer.{said, lists, planning}
use Rattle.joined.proofs.Answers.{fits, judged_ok, call_refused, call_runs}
use Rattle.joined.proofs.plan_texts.Goals as goal

pub returns-in_err-map_err : goal.returns-in_err-map_err
unfolding said
returns-in_err-map_err c = go c.judge.result refl
  where
    go : (r : Result Unit Fault) → c.judge.result ≡ r
        → gives (said c.from_residual.result) (lists c.args.answers.now c.args.offsets.now)
        ≡ planning c.args.texts.now c.args.budget (lists c.args.answers.now c.args.offsets.now)
    go (Ok x) e = let told = rw (e, c.in_err-map_err.was) at c.map_err.ensures.cases in never cc
    go (Err f) e =
        let told = rw (e, c.in_err-map_err.was) at c.map_err.ensures.cases in
        let stopped : c.from_residual.result ≡ Err (record { texts = 0; fault = f }) = search rules in
        rw stopped (call_refused _ _ _ _ _ (sym (rw e at c.judge.ensures)))

pub plan_each-requires : goal.plan_each-requires
plan_each-requires c =
    let fine = sym c.judge.ensures ∙ judged_ok _ (c.in_ok-map_err.ensures.variant) in
    let room = fits c.args.texts.now (lists c.args.answers.now c.args.offsets.now) fine in
    (room.answers, room.plans)

pub returns : goal.returns
returns c = call_runs _ _ _ _ (sym c.judge.ensures ∙ judged_ok _ (c.in_ok-map_err.ensures.variant)) c.plan_each.ensures
