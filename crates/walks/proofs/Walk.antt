-- A walk as a whole: it begins with the parameters' machine values written out, and it ends at a result with what is said of the last
-- values of its parameters, as its contract's triple has them. Assumes nothing.
use mathlib.Core.List.{[], ◌∷◌}
use seplogic.Ra.Ura.{Ura}
use mir.Syntax.{Fn}
use mir.Val.{Val}
use base.Logic.{SProp, ent, sep, wand, emp, via, comm∗, mono_l, wand_i, apply∗}
use prog.Wp.{Calls, Loops, WpFn}
use types.Logic.{Logic, sem}
use contract.Lifetimes.{Lfts, Shares, AllOutlive}
use types.Kit.{raw, ‵, ◌$◌, ◌∵◌, !, qed, move, use1, join, show, frame, updating, now as at_once, done}
use denote.RattleType.{flat}
use denote.Laws.{Are, Ises, Spells, Tellss, valss}
use denote.Signature.{Signature, type_at, types_at}
use denote.Steps.{said}
use denote.Triple.Entry.{Args, Vals, Res, alive, on_entry}
use denote.Triple.Spec.{Back, Meets}
use denote.Triple.Clauses.{Ended, Clauses, Lasts, at_exit, lasts, ensured, closing}
use Rattle.walks.proofs.Clauses.{shown}
use Rattle.walks.proofs.Called.{Callee}

module _ {M : Type 1} {𝓤 : Ura M} (𝓛 : Logic 𝓤) (T : Ended) (c : Clauses 𝓤 T) where
  open 𝓛 use {H}

  abbrev S : Signature
  S = T.signature

  -- a walk that has the tokens, what says the parameters' last values, and what the result owns, has ended once its clauses are shown
  pub ends : (y : (Callee 𝓛 T c).Ghost) (v : Val) (r : Res S y.0.0) (ws : Lasts T y.0.0 y.0.3) {P : SProp 𝓤}
      → ent 𝓤 P (sem 𝓛 (lasts T y.0.0 y.0.3 ws))
      → ent 𝓤 (emp 𝓤) ((c y.0.0 y.0.3).ensures y.1 r (at_exit T y.0.0 y.0.3 ws))
      → ent 𝓤 (sep 𝓤 (alive 𝓛 S y.0.0 y.0.1) (sep 𝓤 P (sem 𝓛 ((type_at S.result y.0.0).own_val r (v ∷ [])))))
      ((Callee 𝓛 T c).post y v)
  ends y v r ws {P} last clauses =
      qed 𝓛 (raw (alive 𝓛 S y.0.0 y.0.1) ∷ raw P ∷ ‵ ((type_at S.result y.0.0).own_val r (v ∷ [])) ∷ []) ∵
      updating ! $ at_once ! $
      show ! (λ (x : Res S y.0.0). sep 𝓤 (Back 𝓛 S y.0 v x) (ensured 𝓛 T c y.0.0 y.0.3 y.1 x)) r $
      move ! (0 ∷ 2 ∷ []) $ join ! $ frame ! $ use1 𝓛 (‵ (lasts T y.0.0 y.0.3 ws)) last $
      show ! (λ (us : Lasts T y.0.0 y.0.3). sep 𝓤 (sem 𝓛 (lasts T y.0.0 y.0.3 us))
      ((c y.0.0 y.0.3).ensures y.1 r (at_exit T y.0.0 y.0.3 us))) ws $ shown ! clauses $ done !

  -- a walk from the parameters' machine values, with their relations in hand, meets the contract
  pub meets : (C : Calls 𝓤 H) (Λ : Loops 𝓤 H) (f : Fn) (sp : (κs : Lfts S.lifetimes) → Spells (types_at S.params κs))
      → ((κs : Lfts S.lifetimes) → Tellss (types_at S.params κs) (Ises (types_at S.params κs)) (sp κs))
      → ((κs : Lfts S.lifetimes) (qs : Shares S.lifetimes) (bounds : AllOutlive S.lifetimes S.outlives κs) (a : Args S κs)
      (g : (c κs a).ghost) → Are (types_at S.params κs) (Ises (types_at S.params κs)) a (valss (types_at S.params κs) (sp κs) a)
      → ent 𝓤 (sep 𝓤 (on_entry 𝓛 S κs qs a (valss (types_at S.params κs) (sp κs) a)) ((c κs a).requires g))
      (WpFn 𝓤 H C Λ f (flat (types_at S.params κs) (valss (types_at S.params κs) (sp κs) a))
      ((Callee 𝓛 T c).post ((κs, qs, bounds, a, valss (types_at S.params κs) (sp κs) a), g))))
      → Meets 𝓛 S (WpFn 𝓤 H C Λ f) (closing 𝓛 T c)
  meets C Λ f sp tells k y =
      let R : SProp 𝓤 = (c y.0.0 y.0.3).requires y.1 in
      let Q : Vals S y.0.0 → SProp 𝓤 = λ us. WpFn 𝓤 H C Λ f (flat (types_at S.params y.0.0) us)
      ((Callee 𝓛 T c).post ((y.0.0, y.0.1, y.0.2, y.0.3, us), y.1)) in
      via 𝓤 (sep 𝓤 R (wand 𝓤 R (Q y.0.4)))
      (via 𝓤 (sep 𝓤 (wand 𝓤 R (Q y.0.4)) R)
      (mono_l 𝓤 R (said 𝓛 S y.0.0 y.0.1 (sp y.0.0) (tells y.0.0) y.0.3 (λ us. wand 𝓤 R (Q us)) y.0.4
      (λ are. wand_i 𝓤 _ R _ (k y.0.0 y.0.1 y.0.2 y.0.3 y.1 are))))
      (comm∗ 𝓤 (wand 𝓤 R (Q y.0.4)) R))
      (apply∗ 𝓤 R (Q y.0.4))
