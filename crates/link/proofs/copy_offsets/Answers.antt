use mathlib.Core.Path.{◌≡◌, refl, sym, ◌∙◌}
use Prim.Native.Nat.{◌<◌}
use native.Mathlib.Omega.{arith}
use lib.ListN.{length, length-set}
use lib.Seq.{take-length}
use Rattle.ground.proofs.Filling.{copied}
use Rattle.link.specs.Starts.{firsts}
use Rattle.link.proofs.Columns.{firsts_length, first_at}
use Rattle.link.proofs.copy_offsets.Goals as goal

pub loop-row-init : goal.loop-row-init
loop-row-init c = (refl, refl)

pub bounds-offsets-row : goal.bounds-offsets-row
bounds-offsets-row c = omega arith

pub loop-row-preserved : goal.loop-row-preserved
loop-row-preserved c =
    let inv = c.loop-row.invariant in
    let low : c.loop-row.row < length (firsts c.args.starts.now) = omega (arith, firsts_length c.args.starts.now) in
    (simp length-set inv.0, copied (firsts c.args.starts.now) _ _ _ _ low (omega arith) (sym (first_at _ _ _ c.loop-row-test.true)) inv.1)

pub returns : goal.returns
returns c =
    let all : c.loop-row.row ≡ length (firsts c.args.starts.now) = omega (arith, firsts_length c.args.starts.now) in
    c.loop-row.invariant.1 ∙ rw (all, take-length)
