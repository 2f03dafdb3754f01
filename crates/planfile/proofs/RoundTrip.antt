-- What was written reads back: number by number, row by row, from a place where the bytes stand. Assumes nothing.
use mathlib.Core.Path.{◌≡◌, sym, ap, ◌∙◌}
use mathlib.Core.List.{List, [], ◌∷◌, ◌++◌, append_assoc, append-nil}
use Prim.Native.Nat.{ℕ, suc, ◌+◌, ◌-◌, ◌≤◌, ◌<◌}
use native.Mathlib.Omega.{arith}
use lib.ListN.{length, get_or, drop}
use lib.Seq.{drop-drop, drop-append_seam}
use Rattle.link.specs.Limits.{max_period, max_delay, max_rows, bad_period, bad_size, bad_delay, bad_rows, bad_offset}
use Rattle.link.specs.Range.{GoodTable, GoodPlan}
use Rattle.link.specs.declared.Link.{Link}
use Rattle.planfile.specs.Number.{number_bytes}
use Rattle.planfile.specs.Format.{tag, header_bytes, rows_bytes, plan_bytes}
use Rattle.planfile.specs.FileMeaning.{Step, got, number, header, row, Rows, rows, closing, body, meaning}
use Rattle.ground.specs.Words.{begins}
use Rattle.planfile.proofs.Numbers.{few_groups}
use Rattle.planfile.proofs.Encoding.{number_reads}
use Rattle.planfile.proofs.Steps.{number_in}

-- three lists and a rest
pub three : (xs ys zs rest : List ℕ) → (xs ++ (ys ++ zs)) ++ rest ≡ xs ++ (ys ++ (zs ++ rest))
three xs ys zs rest = rw (append_assoc, append_assoc)

abbrev pub both : List ℕ → List ℕ → Rows
both ds os = record { delays = ds; offsets = os }

-- one row more in front of the rest is one row more behind those so far
pub both_more : (xs ys ds os : List ℕ) (d o : ℕ) →
    both ((xs ++ (d ∷ [])) ++ ds) ((ys ++ (o ∷ [])) ++ os) ≡ both (xs ++ (d ∷ ds)) (ys ++ (o ∷ os))
both_more xs ys ds os d o = rw (append_assoc, append_assoc)

-- the step s got a, and the rest stands after it
pub record Passed {A : Type 0} (s : Step A) (a : A) (bs rest : List ℕ) : Type 0 where
  pub place : ℕ
  pub here : s ≡ got a place
  pub left : drop place bs ≡ rest

pub behind : (bs xs rest : List ℕ) (at : ℕ) → drop at bs ≡ xs ++ rest → drop (at + length xs) bs ≡ rest
behind bs xs rest at e = sym (drop-drop (length xs) at bs) ∙ rw e (drop-append_seam xs rest)

pub number_got : (bs rest : List ℕ) (at lo hi fault v : ℕ) → drop at bs ≡ number_bytes v ++ rest → lo ≤ v → v ≤ hi → v ≤ max_delay →
    number bs at lo hi fault ≡ got v (at + length (number_bytes v))
number_got bs rest at lo hi fault v e l h m =
    sym (number_in bs at lo hi fault v (length (number_bytes v)) (rw e (number_reads v rest (few_groups v m))) l h)

number_passed : (bs rest : List ℕ) (at lo hi fault v : ℕ) → drop at bs ≡ number_bytes v ++ rest → lo ≤ v → v ≤ hi → v ≤ max_delay →
    Passed (number bs at lo hi fault) v bs rest
number_passed bs rest at lo hi fault v e l h m =
    record {
      place = at + length (number_bytes v);
      here = number_got bs rest at lo hi fault v e l h m;
      left = behind bs (number_bytes v) rest at e;
    }

pub header_passed : (bs rest : List ℕ) (at : ℕ) (k : Link) (ds : List ℕ) → GoodTable k ds
    → drop at bs ≡ header_bytes k (length ds) ++ rest →
    Passed (header bs at) (record { link = k; rows = length ds }) bs rest
unfolding header_bytes header
header_passed bs rest at k ds g e =
    let size_low : k.size ≤ max_delay = omega (arith, g.span_high, g.period_high) in
    let here = e ∙ three (number_bytes k.period) (number_bytes k.size) (number_bytes (length ds)) rest in
    let p = number_passed bs _ at 1 max_period bad_period k.period here g.period_low g.period_high (omega (arith, g.period_high)) in
    let s = number_passed bs _ p.place 1 k.period bad_size k.size p.left g.span_low g.span_high size_low in
    let rows_low = g.rows_high in
    let n = number_passed bs rest s.place 1 max_rows bad_rows (length ds) s.left g.rows_low rows_low (omega arith) in
    record { place = n.place; here = rw (p.here, s.here, n.here); left = n.left }

pub row_passed : (bs rest : List ℕ) (p at d o : ℕ) → p ≤ max_period → d ≤ max_delay → o < p →
    drop at bs ≡ number_bytes d ++ (number_bytes o ++ rest) →
    Passed (row bs p at) (record { delay = d; offset = o }) bs rest
unfolding row
row_passed bs rest p at d o h l m e =
    let x = number_passed bs _ at 0 max_delay bad_delay d e (omega arith) l l in
    let y = number_passed bs rest x.place 0 (p - 1) bad_offset o x.left (omega arith) (omega arith) (omega arith) in
    record { place = y.place; here = rw (x.here, y.here); left = y.left }

-- delays and offsets in range, one for one
pub record InRows (p : ℕ) (ds os : List ℕ) : Type 0 where
  pub as_many : length os ≡ length ds
  pub delays : (i : ℕ) → i < length ds → get_or ds i 0 ≤ max_delay
  pub offsets : (i : ℕ) → i < length os → get_or os i 0 < p

pub in_rows : (k : Link) (ds os : List ℕ) → GoodPlan k ds os → InRows k.period ds os
in_rows k ds os g = record { as_many = g.as_many; delays = g.table.delays; offsets = g.offsets }

pub later_rows : (p d o : ℕ) (ds os : List ℕ) → InRows p (d ∷ ds) (o ∷ os) → InRows p ds os
later_rows p d o ds os w =
    record {
      as_many = omega (arith, w.as_many);
      delays = λ i h. w.delays (suc i) (omega arith);
      offsets = λ i h. w.offsets (suc i) (omega arith);
    }

pub rows_passed : (bs rest : List ℕ) (p at : ℕ) (xs ys ds os : List ℕ) → p ≤ max_period → InRows p ds os →
    drop at bs ≡ rows_bytes ds os ++ rest →
    Passed (rows bs p (length ds) xs ys at) (both (xs ++ ds) (ys ++ os)) bs rest
unfolding rows rows_bytes
rows_passed bs rest p at xs ys [] [] h w e = record { place = at; here = rw (append-nil xs, append-nil ys); left = e }
rows_passed bs rest p at xs ys [] (o ∷ os) h w e = absurd (omega (arith, w.as_many))
rows_passed bs rest p at xs ys (d ∷ ds) [] h w e = absurd (omega (arith, w.as_many))
rows_passed bs rest p at xs ys (d ∷ ds) (o ∷ os) h w e =
    let here = e ∙ three (number_bytes d) (number_bytes o) (rows_bytes ds os) rest in
    let r = row_passed bs (rows_bytes ds os ++ rest) p at d o h (w.delays 0 (omega arith)) (w.offsets 0 (omega arith)) here in
    let q = rows_passed bs rest p r.place (xs ++ (d ∷ [])) (ys ++ (o ∷ [])) ds os h (later_rows p d o ds os w) r.left in
    let values = ap (λ (v : Rows). got v q.place) (both_more xs ys ds os d o) in
    record { place = q.place; here = rw (rows, r.here) (q.here ∙ values); left = q.left }

-- a file that begins with the bytes of a plan is judged where they end
pub record Reached (bs rest : List ℕ) (k : Link) (ds os : List ℕ) : Type 0 where
  pub place : ℕ
  pub here : meaning bs ≡ closing bs k ds os place
  pub left : drop place bs ≡ rest

pub reached : (k : Link) (ds os rest : List ℕ) → GoodPlan k ds os → Reached (plan_bytes k ds os ++ rest) rest k ds os
unfolding plan_bytes meaning body begins
reached k ds os rest g =
    let bs = (tag ++ (header_bytes k (length ds) ++ rows_bytes ds os)) ++ rest in
    let here = append_assoc (header_bytes k (length ds)) (rows_bytes ds os) rest in
    let h = header_passed bs (rows_bytes ds os ++ rest) 4 k ds g.table here in
    let r = rows_passed bs rest k.period h.place [] [] ds os g.table.period_high (in_rows k ds os g) h.left in
    record { place = r.place; here = rw (h.here, r.here); left = r.left }
