-- First Fit's and Meta-Offset's candidates are below the period. Assumes nothing.
use mathlib.Core.List.{List}
use Prim.Native.Nat.{ℕ, ◌/◌}
use native.Mathlib.Omega.{arith}
use native.Mathlib.Nat.{mul-one, div-mul-le_self}
use Rattle.link.specs.Range.{GoodTable}
use Rattle.link.specs.Rows.{span_of}
use Rattle.link.specs.declared.Link.{Link}
use Rattle.quick.specs.Ways.{Ways}

module _ (k : Link) (ds : List ℕ) (g : GoodTable k ds) where
  pub each_offset : Ways k.period (span_of k) 1 k.period
  each_offset =
      record {
        period = g.period_high;
        some_period = g.period_low;
        span_high = g.span_high;
        low = omega (arith, mul-one k.period);
        some_step = omega arith;
      }

  pub multiples : Ways k.period (span_of k) (span_of k) (k.period / span_of k)
  multiples =
      record {
        period = g.period_high;
        some_period = g.period_low;
        span_high = g.span_high;
        low = div-mul-le_self k.period (span_of k);
        some_step = g.span_low;
      }
