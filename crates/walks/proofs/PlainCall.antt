-- A call, inside a walk by hand, of a function over plain data: the caller brings facts of the arguments and nothing else, and
-- learns what the callee's clause says of its result. Assumes nothing.
use mathlib.Core.List.{List, [], ◌∷◌}
use seplogic.Ra.Ura.{Ura}
use mir.Syntax.{Callee as Name, Place, Opd as Operand, Body, seq, call}
use mir.Val.{Val}
use base.Logic.{ent, emp, via}
use base.Fml.{ftrue}
use prog.Wp.{Env, Calls, Loops}
use types.Logic.{Logic}
use sound.WpLaws.{FmC}
use types.Kit.{Item, Post, Seq, ‵, runs, lands, ◌$◌, move, drop}
use types.Run.{Opds}
use denote.RattleType.{RattleType}
use denote.Laws.{Is, Ises, Are, Makess, shows, owns_make}
use denote.Signature.{types_at}
use denote.Steps.{facts, nothing}
use denote.Triple.Statement.{Triple}
use denote.Triple.Call.{calls_from}
use denote.Triple.Entry.{alive}
use denote.Triple.Bound.{passed}
use denote.Triple.Clauses.{Ended, Clauses}
use Rattle.walks.proofs.Clauses.{and}
use Rattle.walks.proofs.Called.{Callee, Result, Says, returned}

module _ {M : Type 1} {𝓤 : Ura M} (𝓛 : Logic 𝓤) (T : Ended) (c : Clauses 𝓤 T) (y : (Callee 𝓛 T c).Ghost) where
  abbrev pub Params : List RattleType
  Params = types_at T.signature.params y.0.0

  -- no token is wanted, the arguments own what facts make, and what is required is shown
  pub record Brought : Type 1 where
    pub lives : ent 𝓤 (emp 𝓤) (alive 𝓛 T.signature y.0.0 y.0.1)
    pub makes : Makess 𝓛 Params (Ises Params)
    pub are : Are Params (Ises Params) y.0.3 y.0.4
    pub asks : ent 𝓤 (emp 𝓤) ((c y.0.0 y.0.3).requires y.1)

  enters : Brought → ent 𝓤 (emp 𝓤) ((Callee 𝓛 T c).pre y)
  enters b = and 𝓤 (and 𝓤 b.lives (owns_make 𝓛 Params (Ises Params) b.makes y.0.3 y.0.4 b.are)) b.asks

-- the four, in that order
pub brought : {M : Type 1} {𝓤 : Ura M} {𝓛 : Logic 𝓤} {T : Ended} {c : Clauses 𝓤 T} {y : (Callee 𝓛 T c).Ghost}
    → ent 𝓤 (emp 𝓤) (alive 𝓛 T.signature y.0.0 y.0.1)
    → Makess 𝓛 (Params 𝓛 T c y) (Ises (Params 𝓛 T c y))
    → Are (Params 𝓛 T c y) (Ises (Params 𝓛 T c y)) y.0.3 y.0.4
    → ent 𝓤 (emp 𝓤) ((c y.0.0 y.0.3).requires y.1) → Brought 𝓛 T c y
brought lives makes are asks = record { lives = lives; makes = makes; are = are; asks = asks }

module _ {M : Type 1} {𝓤 : Ura M} {𝓛 : Logic 𝓤} {K : Type 0} {Γ : List (Item 𝓤)} {E : Env 𝓤 𝓛.H}
    {C : Calls 𝓤 𝓛.H} {Λ : Loops 𝓤 𝓛.H} {p : Post 𝓤 𝓛.H} {f : Name} {xs : List Operand} {d : Place} {rest : Body} where
  open 𝓛 use {H}

  pub calls_plain : K → FmC 𝓤 H 𝓛.laws C → (T : Ended) (c : Clauses 𝓤 T) → Triple 𝓤 (C f) (Callee 𝓛 T c)
      → (y : (Callee 𝓛 T c).Ghost)
      → Brought 𝓛 T c y → (φ : (Result 𝓛 T c y).Denot → Type 0) → Says 𝓛 T c y (λ r _. φ r)
      → Opds K 𝓛 (‵ ftrue ∷ Γ) E xs (passed 𝓛 T.signature y.0)
      → ((v : Val) (r : (Result 𝓛 T c y).Denot) → φ r → Is (Result 𝓛 T c y) r (v ∷ []) → Seq K 𝓛 Γ (lands C Λ E d v rest p))
      → Seq K 𝓛 Γ (runs C Λ E (seq (call f xs d) rest) p)
  calls_plain t fm T c known y b φ said os k =
      let R = Result 𝓛 T c y in
      nothing t $ calls_from t fm (‵ ftrue) (passed 𝓛 T.signature y.0) ((Callee 𝓛 T c).post y)
      (via 𝓤 ((Callee 𝓛 T c).pre y) (enters 𝓛 T c y b) (known y)) os (λ v.
      returned t T c y v (λ r _. φ r) said tt (λ r ws e. move t (1 ∷ []) $ facts t R (Is R) (shows 𝓛 R) r (v ∷ []) (λ is.
      drop t $ drop t $ k v r e is)))
