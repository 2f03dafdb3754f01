-- What a clear plan's bytes mean, with and without bytes behind them, and what an accepted file is. Assumes nothing.
use mathlib.Core.Path.{◌≡◌, refl, sym, ap, ◌∙◌}
use mathlib.Core.Bool.{Bool, true, false, cond, ◌||◌}
use mathlib.Core.List.{List, [], ◌∷◌, ◌++◌, append-nil}
use Prim.Native.Nat.{ℕ, ◌≤◌, ◌<◌}
use native.Mathlib.Omega.{arith}
use lib.Dec.{ltb}
use lib.ListN.{length, take, drop, length-append, length-drop}
use lib.Seq.{take-append_seam}
use borrow.Author.Tests.{le-ltb}
use Rattle.ground.specs.Lent.{on_front}
use Rattle.ground.specs.Protocol.{gives}
use Rattle.ground.proofs.Bools.{never}
use Rattle.link.specs.Limits.{bad_length}
use Rattle.link.specs.Range.{GoodPlan}
use Rattle.link.specs.Rows.{span_of, Clear}
use Rattle.link.specs.declared.Link.{Link}
use Rattle.checker.proofs.Judging.{clear_fine, fine_clear}
use Rattle.planfile.specs.Bytes.{Bytes}
use Rattle.planfile.specs.Causes.{left_over}
use Rattle.planfile.specs.Format.{plan_bytes}
use Rattle.planfile.specs.FileMeaning.{Meaning, plan, refused, closing, meaning}
use Rattle.planfile.specs.Answer.{lists, plan_of, read_said, reads_plan, ReadGives, Gives, refuses, delivers, delivered, read_gives}
use Rattle.planfile.proofs.Closing.{some_left, none_left}
use Rattle.planfile.proofs.OneFile.{accepted}
use Rattle.planfile.proofs.RoundTrip.{reached}

abbrev pub ClearPlan : Link → List ℕ → List ℕ → Type 0
ClearPlan k ds os = GoodPlan k ds os × Clear k.period (span_of k) ds os

module _ (k : Link) (ds os : List ℕ) where
  pub means_its_plan : ClearPlan k ds os → meaning (plan_bytes k ds os) ≡ plan k ds os
  unfolding closing
  means_its_plan w =
      let r = rw (append-nil (plan_bytes k ds os)) at (reached k ds os [] w.0) in
      let all : length (plan_bytes k ds os) ≤ r.place = omega (arith, length-drop r.place (plan_bytes k ds os), ap length r.left) in
      r.here ∙ rw (none_left (plan_bytes k ds os) k ds os r.place all, ← clear_fine k ds os w.0 w.1)

  pub added_means : (b : ℕ) (bs : List ℕ) → GoodPlan k ds os
      → meaning (plan_bytes k ds os ++ (b ∷ bs)) ≡ refused left_over (length (plan_bytes k ds os))
  added_means b bs g =
      let r = reached k ds os (b ∷ bs) g in
      let size = length-drop r.place (plan_bytes k ds os ++ (b ∷ bs)) in
      let left = ap length r.left in
      let whole = length-append (plan_bytes k ds os) (b ∷ bs) in
      let more : r.place < length (plan_bytes k ds os ++ (b ∷ bs)) = omega arith in
      let place : r.place ≡ length (plan_bytes k ds os) = omega arith in
      r.here ∙ some_left _ k ds os r.place more ∙ ap (refused left_over) place

  -- its bytes are delivered into lists with room
  pub reads_back : ClearPlan k ds os → (old_d old_o : List ℕ) → length ds ≤ length old_d → length os ≤ length old_o
      → delivers k ds os old_d old_o ≡ read_gives (plan_bytes k ds os) old_d old_o
  unfolding read_gives delivered
  reads_back w old_d old_o h l = rw (means_its_plan w, le-ltb _ _ h, le-ltb _ _ l)

-- the file bs was read as a plan of n rows on the link k, and the lists were left as ds and os
pub record AcceptedFile (bs old_d old_o : List ℕ) (k : Link) (n : ℕ) (ds os : List ℕ) : Type 0 where
  pub delays : List ℕ
  pub offsets : List ℕ
  pub many : n ≡ length delays
  pub left_delays : ds ≡ on_front delays old_d
  pub left_offsets : os ≡ on_front offsets old_o
  pub front_delays : take n ds ≡ delays
  pub front_offsets : take n os ≡ offsets
  pub clear : ClearPlan k delays offsets
  pub bytes : bs ≡ plan_bytes k delays offsets

front : (xs old ys : List ℕ) (n : ℕ) → ys ≡ on_front xs old → n ≡ length xs → take n ys ≡ xs
front xs old ys n e f = rw (e, f) (take-append_seam xs (drop (length xs) old))

module _ (bs old_d old_o : List ℕ) (h : Bytes bs) (k : Link) (n : ℕ) (ds os : List ℕ) where
  of_plan : (l : Link) (xs ys : List ℕ) → meaning bs ≡ plan l xs ys → gives (reads_plan k n) (lists ds os) ≡ delivers l xs ys old_d old_o
      → AcceptedFile bs old_d old_o k n ds os
  of_plan l xs ys e f =
      let a = accepted bs l xs ys h e in
      let clear = fine_clear l xs ys a.fine in
      let link : k ≡ l = ap (λ (o : ReadGives). o.says.link) f in
      let many : n ≡ length xs = ap (λ (o : ReadGives). o.says.rows) f in
      let delays : ds ≡ on_front xs old_d = ap (λ (o : ReadGives). o.leaves.delays) f in
      let offsets : os ≡ on_front ys old_o = ap (λ (o : ReadGives). o.leaves.offsets) f in
      record {
        delays = xs;
        offsets = ys;
        many = many;
        left_delays = delays;
        left_offsets = offsets;
        front_delays = front xs old_d ds n delays many;
        front_offsets = front ys old_o os n offsets (many ∙ sym clear.0.as_many);
        clear = rw link clear;
        bytes = rw link a.bytes;
      }

  pub accepted_file : Gives (read_gives bs old_d old_o) (plan_of k n) ds os → AcceptedFile bs old_d old_o k n ds os
  unfolding read_said read_gives delivered
  accepted_file e = go (meaning bs) refl e
    where
      pick : (l : Link) (xs ys : List ℕ) → meaning bs ≡ plan l xs ys → (b : Bool)
          → gives (reads_plan k n) (lists ds os) ≡ cond b (refuses bad_length 0 old_d old_o) (delivers l xs ys old_d old_o)
          → AcceptedFile bs old_d old_o k n ds os
      pick l xs ys m true f = never (cc (ap (λ (o : ReadGives). o.says.verdict) f))
      pick l xs ys m false f = of_plan l xs ys m f

      go : (m : Meaning) → meaning bs ≡ m → gives (reads_plan k n) (lists ds os) ≡ delivered m old_d old_o
          → AcceptedFile bs old_d old_o k n ds os
      go (plan l xs ys) m f = pick l xs ys m (ltb (length old_d) (length xs) || ltb (length old_o) (length ys)) f
      go (refused x y) m f = never (cc (ap (λ (o : ReadGives). o.says.verdict) f))
