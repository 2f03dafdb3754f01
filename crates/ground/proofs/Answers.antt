-- The laws of an answer: a fault is the answer, and everything is kept; no fault, and the rest goes on; let through is exactly no
-- fault; and a contract that is an equation has no second answer. Assumes nothing.
use mathlib.Core.Path.{◌≡◌, refl, sym, ap, ◌∙◌}
use Prim.Native.Nat.{ℕ}
use Rattle.ground.specs.Protocol.{Outcome, gives, unless}
use Rattle.ground.specs.Judging.{Judged}
use Rattle.ground.specs.Judging.{Fine, Fault}

module _ {O : Type 0} (refusing : ℕ → ℕ → O) where
  pub refused : {j : Judged} {n p : ℕ} (o : O) → j ≡ Fault n p → refusing n p ≡ unless refusing j o
  refused o e = rw e

  pub goes_on : {j : Judged} {x o : O} → j ≡ Fine → x ≡ o → x ≡ unless refusing j o
  goes_on e f = rw e f

  -- the two ways to an answer x
  pub data Told (j : Judged) (o x : O) : Type 0 where
    stopped : (n p : ℕ) → j ≡ Fault n p → x ≡ refusing n p → Told j o x
    through : j ≡ Fine → x ≡ o → Told j o x

  pub told : (j : Judged) {o x : O} → x ≡ unless refusing j o → Told j o x
  told Fine e = through refl e
  told (Fault n p) e = stopped n p refl e

  -- an answer that is no refusal was let through
  pub let_through : (j : Judged) {o x : O} → ((n p : ℕ) → x ≡ refusing n p → ⊥) → x ≡ unless refusing j o → (j ≡ Fine) × (x ≡ o)
  let_through Fine other e = (refl, e)
  let_through (Fault n p) other e = absurd (other n p e)

-- a `said` that can be taken back, as the paper's form of an answer can, leaves no second answer
module _ {A B : Type 0} (said : A → B) (unsaid : B → A) (again : (a : A) → unsaid (said a) ≡ a) where
  pub no_second : {x : B} {r s : A} → said r ≡ x → said s ≡ x → r ≡ s
  no_second {x} {r} {s} e f = sym (again r) ∙ ap unsaid (e ∙ sym f) ∙ again s

  -- and no second content of lent memory
  pub no_second_outcome : {L : Type 0} {x : Outcome B L} {r s : A} {new other : L} → gives (said r) new ≡ x → gives (said s) other ≡ x
      → (r ≡ s) × (new ≡ other)
  no_second_outcome e f = (
    no_second (ap (λ (o : Outcome B _). o.says) e) (ap (λ (o : Outcome B _). o.says) f),
    ap (λ (o : Outcome B _). o.leaves) (e ∙ sym f),
  )
