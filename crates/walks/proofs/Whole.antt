-- The rules of a walk at the places it mostly has: a whole local is read, set, and given a call's result; of a local that is a
-- struct or a slice one field is read, and what a slice's pointer points at is found. What is computed is given the form in which the
-- walk goes on with it (`being`). Assumes nothing.
use mathlib.Core.Path.{◌≡◌, refl, sym, subst}
use mathlib.Core.Option.{some}
use mathlib.Core.List.{List, [], ◌∷◌}
use Prim.Native.Nat.{ℕ, zero, ◌+◌}
use seplogic.Ra.Ura.{Ura}
use mir.Syntax.{Sym, Ty, Tys, tcons, ty_struct, Body, Rv as RValue, field, deref, place, copy, seq, assign}
use mir.Val.{Val, Vals, vcons, vstruct, vptr}
use mir.Fields.{get_v, set_v}
use base.Fml.{Share, fat}
use prog.Memory.{field_at}
use prog.Wp.{Env, Calls, Loops, Spot, spot_of}
use types.Logic.{Logic}
use types.Kit.{Item, Post, Step, ‵, nth, runs, lands}
use types.Part.{Part, whole, sub, look_in}
use types.Run.{Reads, Walks, Opd, Rv, Finds, Writes, look, stop, hop, fld, from, load, assigns, land}

module _ {M : Type 1} {𝓤 : Ura M} {𝓛 : Logic 𝓤} {K : Type 0} {Γ : List (Item 𝓤)} where
  -- entry n of the context is a struct, and its field k lies in it
  inside : K → (n k : ℕ) {q : Share} {ν : Sym} {τs : Tys} {vs : Vals} {b o : ℕ} {τ : Ty} {d : ℕ}
      → nth 𝓛 n Γ ≡ ‵ (fat q (ty_struct ν τs) b o (vstruct vs)) → field_at zero τs k ≡ some (τ, d)
      → Reads K 𝓛 Γ τ b (o + d) (get_v vs k)
  inside t n k {q} {ν} {τs} {vs} {b} {o} {τ} {d} e g =
      let with : Val → Item 𝓤 = λ u. ‵ (fat q (ty_struct ν τs) b o (vstruct (set_v vs k u))) in
      look_in t n (subst (λ (j : Item 𝓤). Part K 𝓛 j q τ b (o + d) (get_v vs k) with) (sym e) (sub t k g (whole t)))

module _ {M : Type 1} {𝓤 : Ura M} {𝓛 : Logic 𝓤} {K : Type 0} {Γ : List (Item 𝓤)} {E : Env 𝓤 𝓛.H} where
  -- entry n of the context is local i
  open 𝓛 use {H}

  pub local : K → (n : ℕ) {i : ℕ} {q : Share} {v : Val}
      → nth 𝓛 n Γ ≡ ‵ (fat q (spot_of 𝓤 H E i).0 (spot_of 𝓤 H E i).1 (spot_of 𝓤 H E i).2 v) → Opd K 𝓛 Γ E (copy (place i [])) v
  local t n e = load t (from t (stop t)) (look t n e)

  -- entry n is local i, a struct, and its field k is read
  pub part : K → (n : ℕ) {i k : ℕ} {q : Share} {ν : Sym} {τs : Tys} {vs : Vals} {b o : ℕ} {τ : Ty} {d : ℕ}
      → nth 𝓛 n Γ ≡ ‵ (fat q (ty_struct ν τs) b o (vstruct vs)) → spot_of 𝓤 H E i ≡ (ty_struct ν τs, b, o)
      → field_at zero τs k ≡ some (τ, d) → Opd K 𝓛 Γ E (copy (place i (field k ∷ []))) (get_v vs k)
  part t n {i} {k} {q} {ν} {τs} {vs} {b} {o} {τ} {d} e f g =
      load t (from t (subst (λ (sp : Spot 𝓤 H). Walks K 𝓛 Γ E sp (field k ∷ []) (τ, b, o + d)) (sym f) (fld t g (stop t))))
      (inside t n k e g)

  -- entry n is local i, a slice, and what its pointer points at is found
  pub pointee : K → (n : ℕ) {i : ℕ} {q : Share} {ν : Sym} {ρ τ : Ty} {τs : Tys} {vs : Vals} {b o b' o' : ℕ}
      → nth 𝓛 n Γ ≡ ‵ (fat q (ty_struct ν (tcons ρ τs)) b o (vstruct (vcons (vptr b' o') vs)))
      → spot_of 𝓤 H E i ≡ (ty_struct ν (tcons ρ τs), b, o) → Finds K 𝓛 Γ E (place i (field 0 ∷ deref τ ∷ [])) (τ, b', o')
  pointee t n {τ = τ} {b' = b'} {o' = o'} e f =
      from t (subst (λ (sp : Spot 𝓤 H). Walks K 𝓛 Γ E sp (field 0 ∷ deref τ ∷ []) (τ, b', o')) (sym f)
      (fld t refl (hop t (inside t n 0 e refl) (stop t))))

  -- what is computed is the value v
  pub being : K → {rv : RValue} {u v : Val} → u ≡ v → Rv K 𝓛 Γ E rv u → Rv K 𝓛 Γ E rv v
  being t {rv} e r = subst (Rv K 𝓛 Γ E rv) e r

  module _ {C : Calls 𝓤 H} {Λ : Loops 𝓤 H} {p : Post 𝓤 H} {i : ℕ} {rest : Body} {v : Val} {Γ' : List (Item 𝓤)} where
    pub sets : K → {rv : RValue} → Rv K 𝓛 Γ E rv v → Writes K 𝓛 Γ (spot_of 𝓤 H E i).0 (spot_of 𝓤 H E i).1 (spot_of 𝓤 H E i).2 v Γ'
        → Step K 𝓛 Γ' (runs C Λ E rest p) Γ (runs C Λ E (seq (assign (place i []) rv) rest) p)
    sets t r w = assigns t r (from t (stop t)) w

    pub gets : K → Writes K 𝓛 Γ (spot_of 𝓤 H E i).0 (spot_of 𝓤 H E i).1 (spot_of 𝓤 H E i).2 v Γ'
        → Step K 𝓛 Γ' (runs C Λ E rest p) Γ (lands C Λ E (place i []) v rest p)
    gets t w = land t (from t (stop t)) w
