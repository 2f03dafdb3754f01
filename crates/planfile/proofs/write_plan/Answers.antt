-- What the judgment refuses is the answer; else tag, header and rows are put one after the other, and copied where there is room.
use mathlib.Core.Path.{◌≡◌, sym, ◌∙◌}
use mathlib.Core.List.{List}
use Prim.Native.Nat.{ℕ}
use native.Mathlib.Omega.{arith}
use lib.ListN.{length, replicate}
use borrow.Author.Rules.{rules}
use Rattle.std.specs.Prelude.{Err}
use Rattle.ground.proofs.Adding.{on_front}
use Rattle.checker.proofs.Judging.{fine_clear}
use Rattle.planfile.specs.Answer.{written_said}
use Rattle.planfile.proofs.Writing.{length_header, rows_fit, write_fault, write_short, write_done, plan_put, stored_as}
use Rattle.planfile.proofs.write_plan.Goals as goal

-- the array before anything is put into it
abbrev blank : List ℕ
blank = replicate 528 0

pub returns-in_err-judge_clear : goal.returns-in_err-judge_clear
unfolding written_said
returns-in_err-judge_clear c =
    let e : c.from_residual.result ≡ Err c.in_err-judge_clear.field-0.0 = search rules in
    rw e (write_fault _ _ _ _ _ _ (sym c.in_err-judge_clear.ensures))

pub put_header-at_rows-requires : goal.put_header-at_rows-requires
put_header-at_rows-requires c =
    let g = (fine_clear _ _ _ (sym c.in_ok-judge_clear.ensures)).0 in (
      omega arith,
      g.table.period_high,
      omega (arith, g.table.span_high, g.table.period_high),
      g.table.rows_high,
    )

pub put_rows-length-requires-clause-rows_fit : goal.put_rows-length-requires-clause-rows_fit
put_rows-length-requires-clause-rows_fit c = rows_fit _ _ _ (fine_clear _ _ _ (sym c.in_ok-judge_clear.ensures)).0

pub put_rows-length-requires-clause-rows_room_in_bounds :
    goal.put_rows-length-requires-clause-rows_room_in_bounds
put_rows-length-requires-clause-rows_room_in_bounds c =
    omega (arith, c.put_header-at_rows.ensures.end, length_header c.args.link (length c.args.delays.now))

pub returns-then-buffer-length : goal.returns-then-buffer-length
unfolding written_said
returns-then-buffer-length c =
    let put = plan_put _ _ _ blank _ _ _ _ _ (omega arith) c.copy_out.ensures c.put_header-at_rows.ensures
    c.put_rows-length.ensures in
    write_short _ _ _ _ (sym c.in_ok-judge_clear.ensures) (omega (arith, put.end))

pub returns : goal.returns
unfolding written_said
returns c =
    let put = plan_put _ _ _ blank _ _ _ _ _ (omega arith) c.copy_out.ensures c.put_header-at_rows.ensures
    c.put_rows-length.ensures in
    let whole = on_front _ _ _ _ put in
    stored_as _ _ (omega (arith, put.end)) (c.copy_out-2.ensures ∙ rw whole)
    ∙ write_done _ _ _ _ (sym c.in_ok-judge_clear.ensures) (omega (arith, put.end))
