-- A reader owns what its bytes own: that is taken out of it, as a callee on a plain slice asks it, and with a place beside it makes a
-- reader. Assumes `Logic`.
use mathlib.Core.Path.{◌≡◌, refl}
use mathlib.Core.List.{List, [], ◌∷◌}
use Prim.Native.Nat.{ℕ, ◌<◌, ◌^◌}
use lib.ListN.{length}
use seplogic.Ra.Ura.{Ura}
use mir.Syntax.{named, w64}
use mir.Val.{Val}
use base.Logic.{ent}
use base.Fml.{Lft, Fml}
use types.Logic.{Logic, sem}
use types.Kit.{‵, ◌⊛◌, given, ◌$◌, ◌∵◌, !, qed, by, move, keep, use1, split, learn, fjoin, done}
use denote.Builtin.{u8, usize}
use denote.Laws.{Is}
use denote.Plain.{uint_Makes}
use denote.Ref.{Bor, NamedLft}
use denote.Slice.{slice_val, ShrSlice}
use denote.Steps.{owned, nothing}
use denote.Struct.Declared.{Declared}
use denote.Struct.Laws as LL
use denote.Struct.Rest.{all_own, field_own, rest, own_open, own_out, own_shut}
use denote.Struct.Values.{Values}
use Rattle.filereader.specs.declared.FileReader.{FileReader}
use Rattle.filereader.specs.contracts.FileReader as T
use Rattle.filereader.proofs.FileReader.TheLaws as T'

-- the machine value of a slice
abbrev pub slice : Bor (List ℕ) → Val
slice s = slice_val s.ref_ptr (length s.now)

module _ (κ : Lft) where
  abbrev pub α : NamedLft
  α = record { mir = named 0; lft = κ }

  abbrev pub Bytes : Bor (List ℕ) → Fml
  Bytes s = (ShrSlice (named 0) κ u8).own_val s (slice s ∷ [])

  abbrev pub Reader : FileReader → Fml
  Reader d = (T.the_row α).own_val d (T'.lowered d ∷ [])

  module _ {M : Type 1} {𝓤 : Ura M} (𝓛 : Logic 𝓤) (s : Bor (List ℕ)) (n : ℕ) where
    abbrev d : FileReader
    d = record { bytes = s; at = n }

    -- the struct's type and laws, and the fields' values
    abbrev D : Declared
    D = T.the_type α

    abbrev L : LL.Laws D
    L = T'.the_laws α

    abbrev vd : Values D.parts
    vd = (s, (n, tt))

    pub bytes_of : ent 𝓤 (sem 𝓛 (Reader d)) (sem 𝓛 (Bytes s))
    bytes_of =
        qed 𝓛 (‵ (Reader d) ∷ []) ∵
        use1 𝓛 (given (T'.lowered d ∷ [] ≡ T'.lowered d ∷ []) (‵ (all_own D.parts L vd))) (own_open 𝓛 D L vd (T'.lowered d)) $
        learn ! (λ _. use1 𝓛 (‵ (field_own D.parts L 0 s) ⊛ ‵ (rest D.parts L 0 vd)) (own_out 𝓛 D.parts L 0 vd) $ split ! $
        keep ! (0 ∷ []) $ done !)

    pub reader_of : n < 2 ^ 64 → ent 𝓤 (sem 𝓛 (Bytes s)) (sem 𝓛 (Reader d))
    reader_of fits =
        qed 𝓛 (‵ (Bytes s) ∷ []) ∵ nothing ! $ owned ! usize (Is usize) (uint_Makes 𝓛 w64) n _ (refl, fits) $ fjoin ! $
        move ! (1 ∷ 0 ∷ []) $ fjoin ! $ by ! (own_shut 𝓛 D L vd)
