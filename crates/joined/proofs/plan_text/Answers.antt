-- The text is read from its first 1,024 bytes: its fault is split, or its table is planned and answered in front of the lists.
use Rattle.std.specs.Prelude.{◌≡◌, Result, Ok, Err, length}
use mathlib.Core.Path.{sym, refl}
use lib.Dec.{ltb}
use lib.Seq.{length-take-le}
use Prim.Native.Nat.{◌-◌}
use Rattle.ground.specs.Protocol.{gives}
use Rattle.ground.specs.Judging.{Fault as AtFault}
use Rattle.ground.specs.Refusals.{number_of, fault_of}
use Rattle.ground.specs.declared.Fault.{Fault}
use Rattle.ground.proofs.Bools.{never}
use Rattle.text.specs.Limits.{max_text}
use Rattle.text.specs.declared.Text.{Text}
use Rattle.joined.specs.Answer.{lists}
use Rattle.joined.specs.Texts.{split_cut}
use Rattle.joined.specs.Steps.{step_said, step_gives}
use Rattle.joined.proofs.Told.{whole_told, fault_told}
use Rattle.joined.proofs.Steps.{first_bytes, ends_inside, wrong_step, next_step}
use borrow.Author.Rules.{rules}
use Rattle.text.specs.TextAnswer.{text_said}
use Rattle.joined.proofs.plan_text.Goals as goal

pub slice_bounds-delays-end : goal.slice_bounds-delays-end
unfolding text_said
slice_bounds-delays-end c =
    let e : c.read_text.result ≡ Ok c.in_ok-text.text = search rules in
    (whole_told _ _ _ _ _ _ (rw e at c.read_text.ensures)).room (search rules)

pub slice_bounds-exact-end : goal.slice_bounds-exact-end
unfolding text_said
slice_bounds-exact-end c =
    let e : c.read_text.result ≡ Ok c.in_ok-text.text = search rules in
    sym (length-take-le _ _ ((whole_told _ _ _ _ _ _ (rw e at c.read_text.ensures)).room (search rules)))

pub overflow_add-result : goal.overflow_add-result
unfolding text_said
overflow_add-result c =
    let e : c.read_text.result ≡ Ok c.in_ok-text.text = search rules in
    let whole = whole_told _ _ _ _ _ _ (rw e at c.read_text.ensures) in
    let low = ends_inside _ _ _ c.min.ensures _ whole.inside in
    search rules

pub returns-in_err-text : goal.returns-in_err-text
unfolding text_said
returns-in_err-text c = go c.read_text.result refl
  where
    go : (r : Result Text Fault) → c.read_text.result ≡ r
        → gives (step_said c.from_residual.result) (lists c.args.answers.now c.args.offsets.now)
        ≡ step_gives c.args.texts.now c.args.at c.args.budget (lists c.args.answers.now c.args.offsets.now)
    go (Ok t) e = let told = rw (e, c.in_err-text.was) at c.map_err.ensures.cases in never cc
    go (Err f) e =
        let told = rw (e, c.in_err-text.was) at c.map_err.ensures.cases in
        let s : c.from_residual.result ≡ Err c.in_err-text.field-0.0 = search rules in
        let q : fault_of c.in_err-text.field-0.0
        ≡ split_cut AtFault (ltb max_text (length c.args.texts.now - c.args.at)) (number_of f.refusal) f.place = search rules in
        rw s (wrong_step _ _ _ _ _ (first_bytes _ _ _ c.min.ensures) _ _ _ (fault_told _ _ _ _ _ (rw e at c.read_text.ensures)) q)

pub returns : goal.returns
unfolding text_said
returns c =
    let e : c.read_text.result ≡ Ok c.in_ok-text.text = search rules in
    next_step _ _ _ _ _ (first_bytes _ _ _ c.min.ensures) _ _ _ _ _ _ _ _ (whole_told _ _ _ _ _ _ (rw e at c.read_text.ensures))
    c.exact-answer.ensures (rw c.numbers.ensures at c.copy_out.ensures)
