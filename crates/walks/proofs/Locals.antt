-- A function's locals, all at once: there is room for each at the entry, and at the return all are freed, whatever they hold.
-- In a context they stand with the last one first, each as what it holds, or its room, and the right to free it. Assumes nothing.
use mathlib.Core.Path.{◌≡◌, subst, sym}
use mathlib.Core.Option.{Option, none, some}
use mathlib.Core.List.{List, [], ◌∷◌, ◌++◌}
use Prim.Native.Nat.{ℕ, zero, suc, ◌+◌, ◌*◌}
use lib.ListN.{length}
use seplogic.Ra.Ura.{Ura}
use base.Fraction.{full_share}
use mir.Syntax.{Ty, Local, local}
use mir.Val.{Val}
use base.Logic.{SProp, ent, sep, emp, id⊢, via, assoc∗, emp∗, snd∗, mono_r}
use base.Fml.{fat, froom, fdies}
use prog.Wp.{Env, release}
use types.Logic.{Logic}
use types.Kit.{Item, Goal, Seq, Step, step, ‵, raw, ◌⊛◌, mean, ⋆, pop, aim, allocs, frees, ⊢++, ++⊢, ◌$◌, ◌∵◌, !, qed, by, move}
use types.Kit.{use1, split, split3, join, frame, done}
use types.Run.{alloc1, alloc0}

-- where locals lie
abbrev pub Spots : List Local → Type 0
Spots [] = Unit {0}
Spots (local τ h ∷ ls) = ℕ × Spots ls

abbrev pub env_of : (ls : List Local) → Spots ls → List (Ty × ℕ)
env_of [] bs = []
env_of (local τ h ∷ ls) bs = (τ, bs.0) ∷ env_of ls bs.1

abbrev head : List (Option Val) → Option Val
head [] = none
head (o ∷ os) = o

abbrev tail : List (Option Val) → List (Option Val)
tail [] = []
tail (o ∷ os) = os

module _ {M : Type 1} (𝓤 : Ura M) where
  abbrev pub Rooms : (ls : List Local) → Spots ls → List (Item 𝓤) → List (Item 𝓤)
  Rooms [] bs Γ = Γ
  Rooms (local τ h ∷ ls) bs Γ = Rooms ls bs.1 (‵ (froom τ bs.0 zero) ∷ ‵ (fdies τ bs.0) ∷ Γ)

  -- a context's first entries, and those behind them
  abbrev front : ℕ → List (Item 𝓤) → List (Item 𝓤)
  front zero Γ = []
  front (suc n) [] = []
  front (suc n) (i ∷ Γ) = i ∷ front n Γ

  abbrev behind : ℕ → List (Item 𝓤) → List (Item 𝓤)
  behind zero Γ = Γ
  behind (suc n) [] = []
  behind (suc n) (i ∷ Γ) = behind n Γ

  abbrev slot : Ty × ℕ → Option Val → Item 𝓤
  slot e none = ‵ (froom e.0 e.1 zero)
  slot e (some v) = ‵ (fat full_share e.0 e.1 zero v)

  -- the locals E, of which each holds what os has at its place, if anything
  abbrev pub Slots : List (Ty × ℕ) → List (Option Val) → List (Item 𝓤) → List (Item 𝓤)
  Slots [] os Γ = Γ
  Slots (e ∷ E) os Γ = Slots E (tail os) (slot e (head os) ∷ ‵ (fdies e.0 e.1) ∷ Γ)

  -- all of them hold something
  abbrev Held : List (Ty × ℕ) → Type 0
  Held [] = Unit {0}
  Held (e ∷ E) = Val × Held E

  abbrev full : (E : List (Ty × ℕ)) → Held E → List (Option Val)
  full [] vs = []
  full (e ∷ E) vs = some vs.0 ∷ full E vs.1

  abbrev Cells : (E : List (Ty × ℕ)) → Held E → List (Item 𝓤) → List (Item 𝓤)
  Cells E vs = Slots E (full E vs)

module _ {M : Type 1} {𝓤 : Ura M} (𝓛 : Logic 𝓤) where
  -- what is given back of a local, and of the locals E
  open 𝓛 use {H}

  abbrev own : Ty × ℕ → SProp 𝓤
  own e = sep 𝓤 (H.room e.0 e.1 zero) (H.dies e.0 e.1)

  abbrev rooms : List (Ty × ℕ) → SProp 𝓤
  rooms [] = emp 𝓤
  rooms (e ∷ E) = sep 𝓤 (own e) (rooms E)

  vacant : (e : Ty × ℕ) (o : Option Val) → ent 𝓤 (mean 𝓛 (slot 𝓤 e o)) (H.room e.0 e.1 zero)
  vacant e none = id⊢ 𝓤 _
  vacant e (some v) = 𝓛.laws.at_room e.0 e.1 zero v

  emptied : (E : List (Ty × ℕ)) (os : List (Option Val)) (Γ : List (Item 𝓤))
      → ent 𝓤 (⋆ 𝓛 (Slots 𝓤 E os Γ)) (sep 𝓤 (rooms E) (⋆ 𝓛 Γ))
  emptied [] os Γ = emp∗ 𝓤 _
  emptied (e ∷ E) os Γ =
      via 𝓤 _ (emptied E (tail os) (cell ∷ dies ∷ Γ)) (
      via 𝓤 _ (mono_r 𝓤 (rooms E) (via 𝓤 _ (pop 𝓛 cell (dies ∷ Γ)) (mono_r 𝓤 (mean 𝓛 cell) (pop 𝓛 dies Γ))))
      (qed 𝓛 (raw (rooms E) ∷ (cell ⊛ (dies ⊛ raw (⋆ 𝓛 Γ))) ∷ []) ∵ move ! (1 ∷ []) $ split3 ! $
      use1 𝓛 (‵ (froom e.0 e.1 zero)) (vacant e (head os)) $ join ! $ move ! (0 ∷ 2 ∷ []) $ join ! $ frame ! $ done !))
    where
      cell : Item 𝓤
      cell = slot 𝓤 e (head os)

      dies : Item 𝓤
      dies = ‵ (fdies e.0 e.1)

  let_go : (E : List (Ty × ℕ)) (P : SProp 𝓤) → ent 𝓤 (sep 𝓤 (rooms E) P) (release 𝓤 H E P)
  let_go [] P = snd∗ 𝓤 (emp 𝓤) P
  let_go (e ∷ E) P = via 𝓤 _ (assoc∗ 𝓤 (own e) (rooms E) P) (mono_r 𝓤 (own e) (let_go E P))

module _ {M : Type 1} {𝓤 : Ura M} {𝓛 : Logic 𝓤} {K : Type 0} where
  open 𝓛 use {H}

  pub alloc_all : {Γ : List (Item 𝓤)} → K → (ls : List Local) {Kt : Env 𝓤 H → Goal 𝓤 H}
      → ((bs : Spots ls) → Seq K 𝓛 (Rooms 𝓤 ls bs Γ) (Kt (env_of ls bs))) → Seq K 𝓛 Γ (allocs ls Kt)
  alloc_all t [] k = alloc0 t $ k tt
  alloc_all {Γ = Γ} t (local τ h ∷ ls) k =
      alloc1 t (λ b. alloc_all {Γ = ‵ (froom τ b 0) ∷ ‵ (fdies τ b) ∷ Γ} t ls (λ bs. k (b, bs)))

  -- the locals hold os, and stand behind the first n entries
  pub free_slots : {Γ : List (Item 𝓤)} → K → (n : ℕ) {E : Env 𝓤 H} {g : Goal 𝓤 H} (os : List (Option Val))
      → Γ ≡ front 𝓤 n Γ ++ Slots 𝓤 E os (behind 𝓤 (n + 2 * length E) Γ)
      → Step K 𝓛 (front 𝓤 n Γ ++ behind 𝓤 (n + 2 * length E) Γ) g Γ (frees E g)
  free_slots {Γ} t n {E} {g} os e =
      step (λ s. record { prf = subst (λ (Δ : List (Item 𝓤)). ent 𝓤 (⋆ 𝓛 Δ) (release 𝓤 H E (aim 𝓤 H g))) (sym e) (go s) })
    where
      go : Seq K 𝓛 (front 𝓤 n Γ ++ behind 𝓤 (n + 2 * length E) Γ) g
          → ent 𝓤 (⋆ 𝓛 (front 𝓤 n Γ ++ Slots 𝓤 E os (behind 𝓤 (n + 2 * length E) Γ))) (release 𝓤 H E (aim 𝓤 H g))
      go s =
          let Δ = front 𝓤 n Γ in
          let Θ = behind 𝓤 (n + 2 * length E) Γ in
          via 𝓤 _ (⊢++ 𝓛 Δ (Slots 𝓤 E os Θ)) (
          via 𝓤 _ (mono_r 𝓤 (⋆ 𝓛 Δ) (emptied 𝓛 E os Θ)) (
          via 𝓤 _ (qed 𝓛 (raw (⋆ 𝓛 Δ) ∷ (raw (rooms 𝓛 E) ⊛ raw (⋆ 𝓛 Θ)) ∷ []) ∵ move ! (1 ∷ []) $ split ! $ frame ! $
          move ! (1 ∷ 0 ∷ []) $ by ! (via 𝓤 _ (++⊢ 𝓛 Δ Θ) s.prf))
          (let_go 𝓛 E (aim 𝓤 H g))))

  -- all locals hold something, and stand behind the first n entries
  pub free_all : {Γ : List (Item 𝓤)} → K → (n : ℕ) {E : Env 𝓤 H} {g : Goal 𝓤 H} (vs : Held 𝓤 E)
      → Γ ≡ front 𝓤 n Γ ++ Cells 𝓤 E vs (behind 𝓤 (n + 2 * length E) Γ)
      → Step K 𝓛 (front 𝓤 n Γ ++ behind 𝓤 (n + 2 * length E) Γ) g Γ (frees E g)
  free_all t n {E} vs e = free_slots t n (full 𝓤 E vs) e
