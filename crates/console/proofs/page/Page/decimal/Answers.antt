-- The digits, from the end of the array where they are spelt.
use mathlib.Core.Path.{◌∙◌}
use Prim.Native.Nat.{◌+◌, ◌-◌, ◌%◌}
use native.Mathlib.Omega.{arith}
use lib.ListN.{drop, set, length-set, length-drop}
use lib.Seq.{take_all}
use Rattle.console.specs.Printed.{max_digits}
use Rattle.console.proofs.Spelling.{some_to_spell, ends, goes_on}
use Rattle.console.proofs.page.Page.decimal.Goals as goal

pub loop-rest-preserved : goal.loop-rest-preserved
loop-rest-preserved c = goes_on _ _ _ _ (some_to_spell c.loop-rest.invariant) c.if-rest-lt10.false

pub returns : goal.returns
returns c =
    let l = c.loop-rest in
    let spelt = ends _ _ _ _ (some_to_spell l.invariant) c.if-rest-lt10.true in
    let all = take_all (max_digits - (l.from - 1)) (drop (l.from - 1) (set l.digits (l.from - 1) (48 + l.rest % 10)))
    (simp (length-drop, length-set) (omega (arith, l.invariant))) ∙ spelt in
    rw all at c.word.ensures
