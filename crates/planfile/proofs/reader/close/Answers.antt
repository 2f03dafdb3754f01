-- Left-over bytes, then the judgment, then the two lengths; then both lists are copied.
use mathlib.Core.Path.{◌≡◌, sym}
use mathlib.Core.Logic.{⊎_elim}
use borrow.Author.Rules.{rules}
use Rattle.std.specs.Prelude.{Err}
use Rattle.planfile.specs.Answer.{read_said}
use Rattle.planfile.proofs.Closing.{bytes_left_over, unclear, short_delays, short_offsets, copied_out}
use Rattle.planfile.proofs.reader.close.Goals as goal

pub returns-then-end-bytes : goal.returns-then-end-bytes
unfolding read_said
returns-then-end-bytes c = rw (bytes_left_over _ _ _ _ _ _ _ c.if-end-bytes.true)

pub returns-in_err-judge_clear : goal.returns-in_err-judge_clear
unfolding read_said
returns-in_err-judge_clear c =
    let e : c.from_residual.result ≡ Err c.in_err-judge_clear.field-0.0 = search rules in
    rw (e, unclear _ _ _ _ _ _ _ c.if-end-bytes.false _ _ (sym c.in_err-judge_clear.ensures))

pub returns-then-delays-ds : goal.returns-then-delays-ds
unfolding read_said
returns-then-delays-ds c =
    let fine = sym c.in_ok-judge_clear.ensures in
    ⊎_elim (λ h. rw (short_delays _ _ _ _ _ _ _ c.if-end-bytes.false fine h))
    (λ w. rw (short_offsets _ _ _ _ _ _ _ c.if-end-bytes.false fine w.1)) c.then-delays-ds.either

pub returns : goal.returns
unfolding read_said
returns c =
    rw (copied_out _ _ _ _ _ _ _ c.if-end-bytes.false (sym c.in_ok-judge_clear.ensures) c.if-delays-ds.false c.if-offsets-os.false)
    (rw (c.copy_out.ensures, c.copy_out-2.ensures))
