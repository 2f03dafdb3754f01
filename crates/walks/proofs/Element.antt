-- A walk that copies one element of a slice, lent for reading, into a local: the borrow is opened for it, and shut again. Assumes nothing.
use mathlib.Core.Path.{◌≡◌, ap}
use mathlib.Core.List.{List, [], ◌∷◌}
use Prim.Native.Nat.{ℕ, suc, ◌<◌}
use lib.Dec.{T}
use lib.ListN.{length, get_or}
use seplogic.Ra.Ura.{Ura}
use base.Fraction.{full_share}
use mir.Syntax.{Ty, Body, deref, place, copy, rv_opd, seq, assign}
use mir.Raw.{raw as raw_ty}
use mir.Val.{Val, WT, has_ty, vptr}
use base.Fml.{Lft, Share, fat, froom, flft, fhide}
use prog.Wp.{Env, Calls, Loops, spot_of}
use types.Logic.{Logic}
use types.Kit.{Item, Post, Seq, ‵, nth, put, runs, ◌$◌}
use types.Run.{look, look_raw, init, stop, hop, from, load, of_opd}
use denote.Copied.{Copied}
use denote.RattleType.{RattleType}
use denote.Laws.{Is, Tells, shows}
use denote.Memory.{cell_at, mem}
use denote.Index.{place as place_of, elem_out, elem_back, looks_slice, shuts_slice}
use denote.Slice.{elements_shared}
use Rattle.walks.proofs.Whole.{sets}

module _ {M : Type 1} {𝓤 : Ura M} {𝓛 : Logic 𝓤} {K : Type 0} {Γ : List (Item 𝓤)} {E : Env 𝓤 𝓛.H}
    {C : Calls 𝓤 𝓛.H} {Λ : Loops 𝓤 𝓛.H} {p : Post 𝓤 𝓛.H} {d j : ℕ} {τ : Ty} {rest : Body} {κ : Lft} {q s : Share} {v : Val} where
  -- behind the borrow and its token, entry m is local j, which points at element i of ys, and entry n is the room of local d
  open 𝓛 use {H}

  pub copies : K → (R : RattleType) (vals : R.Denot → List Val) → Tells R (Is R) vals → Copied 𝓛 R
      → (ys : List R.Denot) (b o i : ℕ) (x : R.Denot) → i < length ys
      → ((s : Share) → cell_at s R.mir (vals (get_or ys i x)) b (place_of (mem R).size o i)
      ≡ fat s (raw_ty τ) b (place_of (mem R).size o i) v)
      → (m : ℕ) → nth 𝓛 m Γ ≡ ‵ (fat s (spot_of 𝓤 H E j).0 (spot_of 𝓤 H E j).1 (spot_of 𝓤 H E j).2 (vptr b (place_of (mem R).size o i)))
      → (n : ℕ) → nth 𝓛 n Γ ≡ ‵ (froom (spot_of 𝓤 H E d).0 (spot_of 𝓤 H E d).1 (spot_of 𝓤 H E d).2)
      → (Is R (get_or ys i x) (vals (get_or ys i x)) → T (has_ty (spot_of 𝓤 H E d).0 v) × WT v)
      → (Is R (get_or ys i x) (vals (get_or ys i x))
      → Seq K 𝓛 (‵ (flft κ q) ∷ ‵ (fhide (elements_shared R ys b o κ))
      ∷ put 𝓛 n (‵ (fat full_share (spot_of 𝓤 H E d).0 (spot_of 𝓤 H E d).1 (spot_of 𝓤 H E d).2 v)) Γ) (runs C Λ E rest p))
      → Seq K 𝓛 (‵ (fhide (elements_shared R ys b o κ)) ∷ ‵ (flft κ q) ∷ Γ)
      (runs C Λ E (seq (assign (place d []) (rv_opd (copy (place j (deref τ ∷ []))))) rest) p)
  copies t R vals tells cp ys b o i x low cell m at n room typed k =
      looks_slice t tt R cp ys b o (λ s'.
      elem_out t R (Is R) (shows 𝓛 R) vals tells s' ys i x b o low (λ is.
      sets t (of_opd t (load t (from t (hop t (look t (suc (suc (suc (suc (suc m))))) at) (stop t))) (look_raw t 0 (ap ‵ (cell s')))))
      (init t (suc (suc (suc (suc (suc n))))) room (typed is)) $
      elem_back t R s' ys i x (vals (get_or ys i x)) b o low $ shuts_slice t tt R s' ys b o $ k is))
