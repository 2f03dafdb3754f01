-- Facts that are had for nothing, joined by ∗: what a walk brings to a call, and the several `ensures` that it ends with.
-- Assumes nothing.
use mathlib.Core.List.{List}
use seplogic.Ra.Ura.{Ura}
use base.Logic.{SProp, ent, sep, emp, emp∗, comm∗, mono_l, mono∗, via}
use types.Logic.{Logic}
use contract.Monad.{fact, fact_i}
use types.Kit.{Item, Step, step, prop}

-- facts, one after another
module _ {M : Type 1} (𝓤 : Ura M) where
  pub one : {φ : Type 0} → φ → ent 𝓤 (emp 𝓤) (fact 𝓤 φ)
  one {φ} x = fact_i 𝓤 φ (emp 𝓤) x

  pub and : {P Q : SProp 𝓤} → ent 𝓤 (emp 𝓤) P → ent 𝓤 (emp 𝓤) Q → ent 𝓤 (emp 𝓤) (sep 𝓤 P Q)
  and p q = via 𝓤 (sep 𝓤 (emp 𝓤) (emp 𝓤)) (emp∗ 𝓤 (emp 𝓤)) (mono∗ 𝓤 p q)

-- a goal P ∗ Q, where Q is had for nothing: P is left
pub shown : {M : Type 1} {𝓤 : Ura M} {𝓛 : Logic 𝓤} {K : Type 0} {Γ : List (Item 𝓤)} → K → {P Q : SProp 𝓤}
    → ent 𝓤 (emp 𝓤) Q → Step K 𝓛 Γ (prop P) Γ (prop (sep 𝓤 P Q))
shown {𝓤 = 𝓤} t {P} {Q} x =
    step (λ s. record { prf = via 𝓤 P s.prf (via 𝓤 (sep 𝓤 (emp 𝓤) P) (emp∗ 𝓤 P) (via 𝓤 (sep 𝓤 Q P) (mono_l 𝓤 P x) (comm∗ 𝓤 Q P))) })
