-- Each promise used once: a message over slot P-1 meets one at slot 0, by its differences; document 01's single row. Assumes nothing.
use mathlib.Core.Path.{◌≡◌, refl, sym, ◌∙◌}
use mathlib.Core.Bool.{true, not}
use mathlib.Core.List.{[], ◌∷◌}
use native.Mathlib.Omega.{arith}
use Rattle.ground.specs.Least.{one_more, least}
use Rattle.link.specs.Rows.{Clear}
use Rattle.link.specs.Slots.{uses, meets, differ}
use Rattle.link.proofs.Promises.{meet_unless, one_row_clear}

end_meets_start : meets 10 2 9 0 ≡ true
unfolding meets uses least one_more
end_meets_start = refl

pub by_differences : not (differ 10 2 9 0) ≡ true
by_differences = sym (meet_unless 10 2 9 0 (omega arith) (omega arith) (omega arith)) ∙ end_meets_start

-- "5, 2, (0) at offset 1"
pub alone : Clear 5 2 (0 ∷ []) (1 ∷ [])
alone = one_row_clear 5 2 0 (1 ∷ [])
