-- A call, inside a walk by hand, of a function that is passed something that owns: the caller has what the callee asks, and after the
-- call it has the tokens again and what the callee's clause says. Assumes nothing.
use mathlib.Core.List.{List, [], ◌∷◌}
use seplogic.Ra.Ura.{Ura}
use mir.Syntax.{Callee as Name, Place, Opd as Operand, Body, seq, call}
use mir.Val.{Val}
use base.Logic.{ent, sep, emp}
use prog.Wp.{Env, Calls, Loops}
use types.Logic.{Logic, sem}
use sound.WpLaws.{FmC}
use types.Kit.{Item, Post, Seq, ‵, raw, runs, lands, ◌$◌, ◌∵◌, !, qed, move, drop, use0, frame, done}
use types.Run.{Opds}
use denote.RattleType.{RattleType, Denots, Valss, owns}
use denote.Laws.{Is, Ises, Are, Makess, shows, owns_make}
use denote.Steps.{facts}
use denote.Triple.Statement.{Triple}
use denote.Triple.Call.{calls_at}
use denote.Triple.Entry.{alive}
use denote.Triple.Bound.{passed}
use denote.Triple.Clauses.{Ended, Clauses, lasts}
use Rattle.walks.proofs.Clauses.{shown}
use Rattle.walks.proofs.Called.{Callee, Result, Last, Says, returned}

module _ {M : Type 1} {𝓤 : Ura M} {𝓛 : Logic 𝓤} {K : Type 0} {Γ : List (Item 𝓤)} {E : Env 𝓤 𝓛.H}
    {C : Calls 𝓤 𝓛.H} {Λ : Loops 𝓤 𝓛.H} {p : Post 𝓤 𝓛.H} {f : Name} {xs : List Operand} {d : Place} {rest : Body} where
  -- with what is said of the last values of the `&mut` that were passed
  open 𝓛 use {H}

  pub calls_kept : K → FmC 𝓤 H 𝓛.laws C → (T : Ended) (c : Clauses 𝓤 T) → Triple 𝓤 (C f) (Callee 𝓛 T c)
      → (y : (Callee 𝓛 T c).Ghost) (φ : (Result 𝓛 T c y).Denot → Last 𝓛 T c y → Type 0) → Says 𝓛 T c y φ
      → Opds K 𝓛 (raw ((Callee 𝓛 T c).pre y) ∷ Γ) E xs (passed 𝓛 T.signature y.0)
      → ((v : Val) (r : (Result 𝓛 T c y).Denot) (ws : Last 𝓛 T c y) → φ r ws
      → Seq K 𝓛 (raw (alive 𝓛 T.signature y.0.0 y.0.1) ∷ ‵ ((Result 𝓛 T c y).own_val r (v ∷ []))
      ∷ ‵ (lasts T y.0.0 y.0.3 ws) ∷ Γ) (lands C Λ E d v rest p))
      → Seq K 𝓛 (raw ((Callee 𝓛 T c).pre y) ∷ Γ) (runs C Λ E (seq (call f xs d) rest) p)
  calls_kept t fm T c known y φ said os k = calls_at t fm (Callee 𝓛 T c) known y os (λ v. returned t T c y v φ said tt (k v))

  -- with facts of a result that is plain data
  pub calls_lent : K → FmC 𝓤 H 𝓛.laws C → (T : Ended) (c : Clauses 𝓤 T) → Triple 𝓤 (C f) (Callee 𝓛 T c)
      → (y : (Callee 𝓛 T c).Ghost) (φ : (Result 𝓛 T c y).Denot → Type 0) → Says 𝓛 T c y (λ r _. φ r)
      → Opds K 𝓛 (raw ((Callee 𝓛 T c).pre y) ∷ Γ) E xs (passed 𝓛 T.signature y.0)
      → ((v : Val) (r : (Result 𝓛 T c y).Denot) → φ r → Is (Result 𝓛 T c y) r (v ∷ [])
      → Seq K 𝓛 (raw (alive 𝓛 T.signature y.0.0 y.0.1) ∷ Γ) (lands C Λ E d v rest p))
      → Seq K 𝓛 (raw ((Callee 𝓛 T c).pre y) ∷ Γ) (runs C Λ E (seq (call f xs d) rest) p)
  calls_lent t fm T c known y φ said os k =
      let R = Result 𝓛 T c y in
      calls_kept t fm T c known y (λ r _. φ r) said os (λ v r ws e. move t (1 ∷ []) $
      facts t R (Is R) (shows 𝓛 R) r (v ∷ []) (λ is. move t (1 ∷ []) $ drop t $ k v r e is))

-- what a callee asks that is passed one thing that owns, and plain data behind it, of which facts are brought
module _ {M : Type 1} {𝓤 : Ura M} (𝓛 : Logic 𝓤) (T : Ended) (c : Clauses 𝓤 T) (y : (Callee 𝓛 T c).Ghost)
    (R : RattleType) (Rs : List RattleType) where
  pub brings : (x : R.Denot) (v : List Val) (xs : Denots Rs) (vs : Valss Rs) → Makess 𝓛 Rs (Ises Rs) → Are Rs (Ises Rs) xs vs
      → ent 𝓤 (emp 𝓤) ((c y.0.0 y.0.3).requires y.1)
      → ent 𝓤 (sep 𝓤 (alive 𝓛 T.signature y.0.0 y.0.1) (sem 𝓛 (R.own_val x v)))
      (sep 𝓤 (sep 𝓤 (alive 𝓛 T.signature y.0.0 y.0.1) (sem 𝓛 (owns (R ∷ Rs) (x, xs) (v, vs))))
      ((c y.0.0 y.0.3).requires y.1))
  brings x v xs vs makes are asks =
      qed 𝓛 (raw (alive 𝓛 T.signature y.0.0 y.0.1) ∷ ‵ (R.own_val x v) ∷ []) ∵ shown ! asks $ frame ! $
      use0 𝓛 (‵ (owns Rs xs vs)) (owns_make 𝓛 Rs (Ises Rs) makes xs vs are) $ move ! (1 ∷ 0 ∷ []) $ done !
