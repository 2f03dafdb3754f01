-- Invariant: the offsets so far stand behind the tests, and the room that they have taken.
use mathlib.Core.List.{◌++◌}
use Prim.Native.Nat.{◌+◌, ◌*◌, ◌≤◌}
use lib.ListN.{take}
use Rattle.console.specs.Pages.{Puts}
use Rattle.console.specs.Printed.{found_word, number_line, offset_lines}
use Rattle.console.proofs.found.Given as goal

abbrev pub invariant-loop-offset : goal.invariant-loop-offset
invariant-loop-offset l =
    (l.page.end ≤ l.fn.page.end + 27 + 21 * l.offset-index)
    × Puts l.fn.page ((found_word ++ number_line l.tests) ++ offset_lines (take l.offset-index l.offsets)) l.page
