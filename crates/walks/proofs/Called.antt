-- What a walk has once a call has returned, whatever it was passed: the tokens, what the result owns, what is said of the last
-- values of the `&mut` that were passed, and what the callee's clause says of both. Assumes nothing.
use mathlib.Core.Path.{sym, subst}
use mathlib.Core.List.{List, [], ◌∷◌}
use seplogic.Ra.Ura.{Ura}
use mir.Syntax.{Place, Body}
use mir.Val.{Val}
use base.Logic.{ent, id⊢}
use prog.Wp.{Env, Calls, Loops}
use types.Logic.{Logic}
use contract.Monad.{fact}
use types.Kit.{Item, Goal, Post, Seq, Soaks, ‵, raw, ◌⊛◌, some, later, lands, ◌$◌, move, use1, split, pick, await}
use denote.RattleType.{RattleType}
use denote.Laws.{Is, Tells}
use denote.Signature.{type_at}
use denote.Steps.{only, heard}
use denote.Triple.Statement.{Contract}
use denote.Triple.Entry.{alive}
use denote.Triple.Spec.{triple_of}
use denote.Triple.Clauses.{Ended, Clauses, Lasts, at_exit, lasts, ensured, closing}

module _ {M : Type 1} {𝓤 : Ura M} (𝓛 : Logic 𝓤) (T : Ended) (c : Clauses 𝓤 T) where
  abbrev pub Callee : Contract 𝓤
  Callee = triple_of 𝓛 T.signature (closing 𝓛 T c)

  -- a call that is passed y
  module _ (y : Callee.Ghost) where
    abbrev pub Result : RattleType
    Result = type_at T.signature.result y.0.0

    abbrev pub Last : Type 0
    Last = Lasts T y.0.0 y.0.3

    -- φ is what the clause says of a result and of last values
    abbrev pub Says : (Result.Denot → Last → Type 0) → Type 1
    Says φ =
        (r : Result.Denot) (ws : Last)
        → ent 𝓤 ((c y.0.0 y.0.3).ensures y.1 r (at_exit T y.0.0 y.0.3 ws)) (fact 𝓤 (φ r ws))

module _ {M : Type 1} {𝓤 : Ura M} {𝓛 : Logic 𝓤} {K : Type 0} {Γ : List (Item 𝓤)} {G : Goal 𝓤 𝓛.H} where
  pub returned : K → (T : Ended) (c : Clauses 𝓤 T) (y : (Callee 𝓛 T c).Ghost) (v : Val)
      (φ : (Result 𝓛 T c y).Denot → Last 𝓛 T c y → Type 0) → Says 𝓛 T c y φ → Soaks G
      → ((r : (Result 𝓛 T c y).Denot) (ws : Last 𝓛 T c y) → φ r ws
      → Seq K 𝓛 (raw (alive 𝓛 T.signature y.0.0 y.0.1) ∷ ‵ ((Result 𝓛 T c y).own_val r (v ∷ []))
      ∷ ‵ (lasts T y.0.0 y.0.3 ws) ∷ Γ) G)
      → Seq K 𝓛 (raw ((Callee 𝓛 T c).post y v) ∷ Γ) G
  returned t T c y v φ said soaks k =
      let R = Result 𝓛 T c y in
      let tokens = alive 𝓛 T.signature y.0.0 y.0.1 in
      let left : Last 𝓛 T c y → Item 𝓤 = λ ws. ‵ (lasts T y.0.0 y.0.3 ws) in
      let clause : R.Denot → Item 𝓤 = λ r. raw (ensured 𝓛 T c y.0.0 y.0.3 y.1 r) in
      use1 𝓛 (later (some (λ (r : R.Denot). (raw tokens ⊛ ‵ (R.own_val r (v ∷ []))) ⊛ clause r))) (id⊢ 𝓤 _) $ await t soaks $
      pick t (λ r. split t $ move t (1 ∷ []) $
      use1 𝓛 (some (λ (ws : Last 𝓛 T c y). left ws ⊛ raw ((c y.0.0 y.0.3).ensures y.1 r (at_exit T y.0.0 y.0.3 ws))))
      (id⊢ 𝓤 _) $ pick t (λ ws. split t $ move t (1 ∷ []) $ use1 𝓛 (raw (fact 𝓤 (φ r ws))) (said r ws) $
      heard t (φ r ws) (λ e. move t (1 ∷ []) $ split t $ k r ws e)))

module _ {M : Type 1} {𝓤 : Ura M} {𝓛 : Logic 𝓤} {K : Type 0} {Γ : List (Item 𝓤)} {E : Env 𝓤 𝓛.H}
    {C : Calls 𝓤 𝓛.H} {Λ : Loops 𝓤 𝓛.H} {p : Post 𝓤 𝓛.H} {d : Place} {rest : Body} where
  -- the result's machine value is the one that its value spells
  pub spelled : K → (R : RattleType) (vals : R.Denot → List Val) → Tells R (Is R) vals → (r : R.Denot) {v : Val} → Is R r (v ∷ [])
      → (Is R r (vals r) → Seq K 𝓛 Γ (lands C Λ E d (only (vals r)) rest p)) → Seq K 𝓛 Γ (lands C Λ E d v rest p)
  spelled t R vals tells r {v} is k =
      let e = tells r (v ∷ []) is in
      subst (λ (vs : List Val). Seq K 𝓛 Γ (lands C Λ E d (only vs) rest p)) (sym e) (k (subst (Is R r) e is))
