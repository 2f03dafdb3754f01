-- What the reader gives after the last number, case by case. Assumes nothing.
use mathlib.Core.Path.{◌≡◌}
use mathlib.Core.Bool.{or-true}
use mathlib.Core.List.{List}
use Prim.Native.Nat.{ℕ, ◌≤◌, ◌<◌}
use lib.ListN.{length}
use borrow.Author.Tests.{lt-ltb, le-ltb}
use Rattle.link.specs.Limits.{bad_length}
use Rattle.link.specs.declared.Link.{Link}
use Rattle.ground.specs.Judging.{first}
use Rattle.ground.specs.Protocol.{unless}
use Rattle.checker.specs.Judging.{clear_faults}
use Rattle.ground.specs.Judging.{Fine, Fault}
use Rattle.planfile.specs.Causes.{left_over}
use Rattle.planfile.specs.FileMeaning.{plan, refused, closing}
use Rattle.planfile.specs.Answer.{refuses, delivers, delivered}

-- "After the last number: .. bytes left over", before anything else is judged
module _ (bs : List ℕ) (k : Link) (ds os : List ℕ) (at : ℕ) where
  pub some_left : at < length bs → closing bs k ds os at ≡ refused left_over at
  unfolding closing
  some_left h = rw (lt-ltb _ _ h)

  pub none_left : length bs ≤ at → closing bs k ds os at ≡ unless refused (first (clear_faults k ds os)) (plan k ds os)
  unfolding closing
  none_left h = rw (le-ltb _ _ h)

module _ (bs : List ℕ) (k : Link) (ds os : List ℕ) (at : ℕ) (old_d old_o : List ℕ) where
  pub bytes_left_over : at < length bs → delivered (closing bs k ds os at) old_d old_o ≡ refuses left_over at old_d old_o
  unfolding delivered
  bytes_left_over h = rw (some_left bs k ds os at h)

  module _ (all : length bs ≤ at) where
    pub unclear : (n p : ℕ) → first (clear_faults k ds os) ≡ Fault n p
        → delivered (closing bs k ds os at) old_d old_o ≡ refuses n p old_d old_o
    unfolding delivered
    unclear n p e = rw (none_left bs k ds os at all, e)

    module _ (fine : first (clear_faults k ds os) ≡ Fine) where
      pub short_delays : length old_d < length ds → delivered (closing bs k ds os at) old_d old_o ≡ refuses bad_length 0 old_d old_o
      unfolding delivered
      short_delays h = rw (none_left bs k ds os at all, fine, lt-ltb _ _ h)

      pub short_offsets : length old_o < length os → delivered (closing bs k ds os at) old_d old_o ≡ refuses bad_length 0 old_d old_o
      unfolding delivered
      short_offsets h = rw (none_left bs k ds os at all, fine, lt-ltb _ _ h, or-true)

      pub copied_out : length ds ≤ length old_d → length os ≤ length old_o →
          delivered (closing bs k ds os at) old_d old_o ≡ delivers k ds os old_d old_o
      unfolding delivered
      copied_out h l = rw (none_left bs k ds os at all, fine, le-ltb _ _ h, le-ltb _ _ l)
