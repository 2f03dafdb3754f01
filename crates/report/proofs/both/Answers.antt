use native.Mathlib.Omega.{arith}
use Rattle.report.proofs.Crossings.{one_more, placed, firsts, seconds, tells}
use Rattle.report.proofs.both.Goals as goal

pub loop-row-preserved : goal.loop-row-preserved
loop-row-preserved c = one_more c.requires.1 c.loop-row.invariant (omega arith) c.second_start.ensures

pub crossing-first-requires : goal.crossing-first-requires
crossing-first-requires c = placed c.requires.1 c.requires.0 c.requires.2 (firsts c.requires.1)

pub crossing-second-requires : goal.crossing-second-requires
crossing-second-requires c = placed c.requires.1 c.requires.0 c.requires.2 (seconds c.requires.1 c.loop-row.invariant (omega arith))

pub returns : goal.returns
returns c =
    tells _ (firsts c.requires.1) (seconds c.requires.1 c.loop-row.invariant (omega arith)) c.crossing-first.ensures
    c.crossing-second.ensures
