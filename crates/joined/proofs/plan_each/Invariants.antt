-- Invariant: the first t texts are answered, and text t begins at `at`.
use Rattle.joined.specs.Answer.{lists}
use Rattle.joined.proofs.Walk.{Walked}
use Rattle.joined.proofs.plan_each.Given as goal

abbrev pub invariant-loop-t : goal.invariant-loop-t
invariant-loop-t l =
    Walked l.texts l.budget (lists l.initial.answers l.initial.offsets) l.at l.t-counter (lists l.answers l.offsets)
