-- What the plan file's reader and writer promise, of any answers that meet their contracts. Assumes nothing.
use mathlib.Core.Path.{◌≡◌, refl, sym, ap, ◌∙◌}
use mathlib.Core.Bool.{true}
use mathlib.Core.Logic.{◌↔◌}
use mathlib.Core.List.{List, [], ◌∷◌, ◌++◌, append-nil}
use Prim.Native.Nat.{ℕ, ◌≤◌, ◌<◌}
use native.Mathlib.Omega.{arith}
use lib.ListN.{length, take, drop, length-append}
use lib.Seq.{take-append_seam, drop-length}
use Rattle.std.specs.Prelude.{Ok, Err}
use Rattle.ground.specs.Judging.{first}
use Rattle.ground.specs.Refusals.{number_of}
use Rattle.ground.specs.declared.Fault.{Fault}
use Rattle.ground.specs.Lent.{on_front}
use Rattle.ground.specs.Protocol.{Outcome, gives, keeping}
use Rattle.ground.specs.Words.{begins, Differ}
use Rattle.ground.proofs.Answers.{let_through}
use Rattle.ground.proofs.Bools.{never}
use Rattle.ground.proofs.Faults.{front_fine}
use Rattle.link.specs.Limits.{not_clear}
use Rattle.link.specs.Range.{GoodPlan}
use Rattle.link.specs.Rows.{span_of, Clear}
use Rattle.link.specs.declared.Link.{Link}
use Rattle.checker.specs.Judging.{clear_faults}
use Rattle.checker.specs.Order.{FirstCollision}
use Rattle.checker.proofs.Judging.{clear_fine, fine_clear, unclear}
use Rattle.planfile.specs.Bytes.{Bytes}
use Rattle.planfile.specs.Causes.{wrong_tag, cut_off, left_over}
use Rattle.planfile.specs.Number.{Value, more_groups, limit, number_bytes, read_number}
use Rattle.planfile.specs.Format.{tag, plan_bytes, place_of}
use Rattle.planfile.specs.FileMeaning.{got, header, Rows, rows, plan, refused, closing, body, meaning}
use Rattle.planfile.specs.Answer.{PlanRead, plan_of, IsFileOf, ReadSaid, refuses_read, read_said}
use Rattle.planfile.specs.Answer.{ReadGives, Gives, refuses, read_gives, delivered}
use Rattle.planfile.specs.Answer.{WrittenSaid, PlanWritten, written_said, refuses_write, write_faults, write_gives}
use Rattle.planfile.specs.FormFault.{FormFault, tag_wrong, form_number}
use Rattle.planfile.proofs.Accepted.{ClearPlan, means_its_plan, added_means, reads_back, AcceptedFile, accepted_file}
use Rattle.planfile.proofs.Closing.{bytes_left_over, unclear as unclear_closed}
use Rattle.planfile.proofs.Damage.{cut_anywhere}
use Rattle.planfile.proofs.FirstFault.{form_fault_refused, form_number_lem, only_form_faults, only_the_tag, refused_means}
use Rattle.planfile.proofs.Encoding.{number_only, number_reads}
use Rattle.planfile.proofs.NoSecond.{no_second_reading, no_second_writing}
use Rattle.planfile.proofs.OneFile.{got_good}
use Rattle.planfile.proofs.Writing.{write_fault, write_done}

-- the answer r and the buffer `new` meet the writer's contract
abbrev pub Writes : Link → List ℕ → List ℕ → List ℕ → PlanWritten → List ℕ → Type 0
Writes k ds os old r new = gives (written_said r) new ≡ write_gives k ds os old

-- the answer r and the two lists meet the reader's contract on the bytes bs
abbrev pub Reads : List ℕ → List ℕ → List ℕ → PlanRead → List ℕ → List ℕ → Type 0
Reads bs old_d old_o r ds os = Gives (read_gives bs old_d old_o) r ds os

-- a refused reading, with both lists kept
abbrev pub RefusedAt : ℕ → ℕ → PlanRead → List ℕ → List ℕ → List ℕ → List ℕ → Type 0
RefusedAt n p r old_d ds old_o os = (read_said r ≡ refuses_read n p) × (ds ≡ old_d) × (os ≡ old_o)

refused_so : (bs old_d old_o : List ℕ) (r : PlanRead) (n p : ℕ) → refuses n p old_d old_o ≡ read_gives bs old_d old_o → {ds os : List ℕ}
    → Reads bs old_d old_o r ds os → RefusedAt n p r old_d ds old_o os
refused_so bs old_d old_o r n p e w =
    let same = w ∙ sym e in (
      ap (λ (g : ReadGives). g.says) same,
      ap (λ (g : ReadGives). g.leaves.delays) same,
      ap (λ (g : ReadGives). g.leaves.offsets) same,
    )

module _ (k : Link) (ds os old : List ℕ) (r : PlanWritten) (new : List ℕ) (w : Writes k ds os old r new) where
  -- the file in the front of the buffer
  file_of : (n : ℕ) → r ≡ Ok n → (ClearPlan k ds os) × (take n new ≡ plan_bytes k ds os)
  unfolding written_said write_gives write_faults
  file_of n e =
      let t = let_through (keeping refuses_write old) (first (write_faults k ds os (length old)))
      (λ m p h. never (cc (ap (λ (o : Outcome WrittenSaid (List ℕ)). o.says.verdict) h)))
      (ap (λ (x : PlanWritten). gives (written_said x) new) (sym e) ∙ w) in
      let clear = fine_clear k ds os (front_fine (clear_faults k ds os) _ t.0).0 in
      let long : n ≡ length (plan_bytes k ds os) = ap (λ (o : Outcome WrittenSaid (List ℕ)). o.says.bytes) t.1 in
      let left : new ≡ on_front (plan_bytes k ds os) old = ap (λ (o : Outcome WrittenSaid (List ℕ)). o.leaves) t.1 in
      (clear, rw (long, left) (take-append_seam (plan_bytes k ds os) (drop (length (plan_bytes k ds os)) old)))

  -- "The writer writes clear plans only"
  pub writes_clear_only : (n : ℕ) → r ≡ Ok n → ClearPlan k ds os
  writes_clear_only n e = (file_of n e).0

  -- and where there is room it does: the plan's bytes go into the front of the buffer
  pub writes_its_bytes : ClearPlan k ds os → length (plan_bytes k ds os) ≤ length old
      → (r ≡ Ok (length (plan_bytes k ds os))) × (new ≡ on_front (plan_bytes k ds os) old)
  unfolding written_said
  writes_its_bytes c room =
      no_second_writing k ds os old r (Ok _) new _ w (write_done k ds os old (sym (clear_fine k ds os c.0 c.1)) room)

  -- "18 plan to write .. isn't clear", and nothing is written
  pub not_clear_not_written : GoodPlan k ds os → (Clear k.period (span_of k) ds os → ⊥)
      → (i : ℕ) × (j : ℕ) × (c : ℕ) × FirstCollision k.period (span_of k) ds os i j c
      × (written_said r ≡ refuses_write not_clear j) × (new ≡ old)
  not_clear_not_written g n =
      let u = unclear k ds os g n in
      let same = w ∙ sym (write_fault k ds os old not_clear u.0 u.1.judged) in (
        u.1.earlier,
        u.0,
        u.1.crossing,
        u.1.first_one,
        ap (λ (o : Outcome WrittenSaid (List ℕ)). o.says) same,
        ap (λ (o : Outcome WrittenSaid (List ℕ)). o.leaves) same,
      )

  -- "A plan written to a file reads back the same"
  pub read_what_was_written : (n : ℕ) → r ≡ Ok n → (old_d old_o : List ℕ) → length ds ≤ length old_d → length os ≤ length old_o
      → (q : PlanRead) (ds' os' : List ℕ) → Reads (take n new) old_d old_o q ds' os'
      → (q ≡ plan_of k (length ds)) × (ds' ≡ on_front ds old_d) × (os' ≡ on_front os old_o)
  unfolding read_said
  read_what_was_written n e old_d old_o h l q ds' os' v =
      let f = file_of n e in
      no_second_reading (plan_bytes k ds os) old_d old_o q (plan_of k (length ds)) ds' (on_front ds old_d) os' (on_front os old_o)
      (rw f.1 at v) (reads_back k ds os f.0 old_d old_o h l)

-- "each accepted file is the only one for its plan": no file for two plans,
pub one_plan : (k k' : Link) (ds ds' os os' old old' : List ℕ) (n n' : ℕ) (new new' : List ℕ) → Writes k ds os old (Ok n) new
    → Writes k' ds' os' old' (Ok n') new' → take n new ≡ take n' new' → (k ≡ k') × (ds ≡ ds') × (os ≡ os')
one_plan k k' ds ds' os os' old old' n n' new new' w w' e =
    let f = file_of k ds os old (Ok n) new w n refl in
    let f' = file_of k' ds' os' old' (Ok n') new' w' n' refl in
    let bytes : plan_bytes k ds os ≡ plan_bytes k' ds' os' = sym f.1 ∙ e ∙ f'.1 in
    let means = means_its_plan k ds os f.0 in
    let means' = means_its_plan k' ds' os' f'.0 in
    let same : plan k ds os ≡ plan k' ds' os' = sym means ∙ ap meaning bytes ∙ means' in
    (cc, cc, cc)

-- every accepted file is the bytes that writing its plan gives,
pub accepted_is_written : (bs old_d old_o : List ℕ) → Bytes bs → (k : Link) (n : ℕ) (ds os : List ℕ)
    → Reads bs old_d old_o (plan_of k n) ds os → AcceptedFile bs old_d old_o k n ds os
accepted_is_written = accepted_file

-- the same as the reader's contract says it,
pub is_file_of : (bs old_d old_o ds os : List ℕ) (r : PlanRead) → Bytes bs → Reads bs old_d old_o r ds os → IsFileOf r bs ds os
is_file_of bs old_d old_o ds os (Err f) h w = tt
is_file_of bs old_d old_o ds os (Ok p) h w =
    let a = accepted_file bs old_d old_o h p.link p.rows ds os w in
    rw (a.front_delays, a.front_offsets) a.bytes

-- and no two files for one plan
pub one_file : (bs bs' old_d old_d' old_o old_o' : List ℕ) → Bytes bs → Bytes bs' → (k : Link) (n : ℕ) (ds ds' os os' : List ℕ)
    → Reads bs old_d old_o (plan_of k n) ds os → Reads bs' old_d' old_o' (plan_of k n) ds' os'
    → take n ds ≡ take n ds' → take n os ≡ take n os' → bs ≡ bs'
one_file bs bs' old_d old_d' old_o old_o' h h' k n ds ds' os os' w w' e f =
    is_file_of bs old_d old_o ds os (plan_of k n) h w ∙ rw (e, f) (sym (is_file_of bs' old_d' old_o' ds' os' (plan_of k n) h' w'))

module _ (k : Link) (ds os : List ℕ) (g : GoodPlan k ds os) (old_d old_o : List ℕ) (r : PlanRead) (ds' os' : List ℕ) where
  -- with bytes added at its end a file is 22, at the first of them
  pub bytes_added : (b : ℕ) (bs : List ℕ) → Reads (plan_bytes k ds os ++ (b ∷ bs)) old_d old_o r ds' os'
      → RefusedAt left_over (length (plan_bytes k ds os)) r old_d ds' old_o os'
  unfolding read_gives delivered
  bytes_added b bs = refused_so _ old_d old_o r left_over _ (rw (added_means k ds os b bs g))

  -- cut anywhere it is 19, at the first byte of the tag or number that was cut
  pub bytes_cut : (m : ℕ) → m < length (plan_bytes k ds os) → Reads (take m (plan_bytes k ds os)) old_d old_o r ds' os'
      → RefusedAt cut_off (place_of k ds os m) r old_d ds' old_o os'
  unfolding read_gives delivered
  bytes_cut m h = refused_so _ old_d old_o r cut_off _ (rw (cut_anywhere k ds os m g h))

-- "only a cut file is worth fetching again": of an accepted file
module _ (bs old_d old_o : List ℕ) (h : Bytes bs) (k : Link) (n : ℕ) (ds os : List ℕ) (w : Reads bs old_d old_o (plan_of k n) ds os)
    (old_d' old_o' : List ℕ) (r : PlanRead) (ds' os' : List ℕ) where
  its_plan : GoodPlan k (take n ds) (take n os)
  its_plan = let a = accepted_file bs old_d old_o h k n ds os w in rw (a.front_delays, a.front_offsets) a.clear.0

  its_bytes : bs ≡ plan_bytes k (take n ds) (take n os)
  its_bytes = is_file_of bs old_d old_o ds os (plan_of k n) h w

  -- each proper front is 19, and is nothing else
  pub front_is_cut : (m : ℕ) → m < length bs → Reads (take m bs) old_d' old_o' r ds' os'
      → RefusedAt cut_off (place_of k (take n ds) (take n os) m) r old_d' ds' old_o' os'
  front_is_cut m l v =
      bytes_cut k (take n ds) (take n os) its_plan old_d' old_o' r ds' os' m (rw its_bytes at l) (rw its_bytes at v)

  -- with bytes behind it it is 22, at its old length
  pub more_is_left_over : (b : ℕ) (xs : List ℕ) → Reads (bs ++ (b ∷ xs)) old_d' old_o' r ds' os'
      → RefusedAt left_over (length bs) r old_d' ds' old_o' os'
  more_is_left_over b xs v =
      rw its_bytes (bytes_added k (take n ds) (take n os) its_plan old_d' old_o' r ds' os' b xs (rw its_bytes at v))

-- so a file that is refused with another number than 19 is not mended by what is missing: no longer file that begins so is accepted
pub only_cut_is_mended : (bs old_d old_o : List ℕ) (f : Fault) (ds os : List ℕ) → Reads bs old_d old_o (Err f) ds os
    → (number_of f.refusal ≡ cut_off → ⊥) → (b : ℕ) (xs old_d' old_o' : List ℕ) → Bytes (bs ++ (b ∷ xs))
    → (k : Link) (m : ℕ) (ds' os' : List ℕ) → Reads (bs ++ (b ∷ xs)) old_d' old_o' (plan_of k m) ds' os' → ⊥
unfolding read_said
only_cut_is_mended bs old_d old_o f ds os w other b xs old_d' old_o' h k m ds' os' v =
    let inside : length bs < length (bs ++ (b ∷ xs)) = omega (arith, length-append bs (b ∷ xs)) in
    let front : take (length bs) (bs ++ (b ∷ xs)) ≡ bs = take-append_seam bs (b ∷ xs) in
    let longer = bs ++ (b ∷ xs) in
    let cut = front_is_cut longer old_d' old_o' h k m ds' os' v old_d old_o (Err f) ds os (length bs) inside (rw front w) in
    other (ap (λ (s : ReadSaid). s.number) cut.0)

-- "Please split it by cause": each of 16, 19, 20, 21 and 22 is given exactly where its cause is the first fault
module _ (bs old_d old_o : List ℕ) (r : PlanRead) (ds os : List ℕ) (w : Reads bs old_d old_o r ds os) (n at : ℕ) where
  pub told_by_cause : FormFault bs n at ↔ ((read_said r ≡ refuses_read n at) × (form_number n ≡ true))
  unfolding read_gives delivered
  told_by_cause = (there, back)
    where
      there : FormFault bs n at → (read_said r ≡ refuses_read n at) × (form_number n ≡ true)
      there f = ((refused_so bs old_d old_o r n at (rw (form_fault_refused bs n at f)) w).0, form_number_lem bs n at f)

      back : (read_said r ≡ refuses_read n at) × (form_number n ≡ true) → FormFault bs n at
      back f = only_form_faults bs n at f.1 (refused_means bs old_d old_o ds os n at f.1 (rw f.0 at w))

-- no file has two of these faults
pub one_cause : (bs : List ℕ) (n n' at at' : ℕ) → FormFault bs n at → FormFault bs n' at' → (n ≡ n') × (at ≡ at')
one_cause bs n n' at at' f g =
    let same : refused n at ≡ refused n' at' = sym (form_fault_refused bs n at f) ∙ form_fault_refused bs n' at' g in
    (cc, cc)

-- "16 keeps the wrong tag", "for the tag always 0"
pub wrong_tag_exactly : (bs old_d old_o : List ℕ) (r : PlanRead) (ds os : List ℕ) → Reads bs old_d old_o r ds os → (at : ℕ)
    → (read_said r ≡ refuses_read wrong_tag at) ↔ ((at ≡ 0) × Differ bs tag)
unfolding form_number
wrong_tag_exactly bs old_d old_o r ds os w at =
    let told = told_by_cause bs old_d old_o r ds os w wrong_tag at in
    ((λ e. only_the_tag bs at (told.1 (e, refl))), (λ t. (told.0 (tag_wrong refl t.0 t.1)).0))

-- A number has one encoding: its bytes read as it, and bytes that read as it, to their end, are its bytes.
pub one_encoding : (bs : List ℕ) (v : ℕ) → Bytes bs → v < limit more_groups → (read_number bs ≡ Value v (length bs)) ↔ (bs ≡ number_bytes v)
one_encoding bs v h l = (there, back)
  where
    there : read_number bs ≡ Value v (length bs) → bs ≡ number_bytes v
    there e = (number_only bs v (length bs) h e).0 ∙ rw (drop-length bs) (append-nil (number_bytes v))

    back : bs ≡ number_bytes v → read_number bs ≡ Value v (length bs)
    back e = rw e (rw (append-nil (number_bytes v)) at (number_reads v [] l))

-- "After the last number: .. bytes left over, then 18, then 11."
module _ (bs : List ℕ) (k : Link) (n at : ℕ) (w : Rows) (end : ℕ) (t : begins tag bs ≡ true)
    (e : header bs (length tag) ≡ got (record { link = k; rows = n }) at) (f : rows bs k.period n [] [] at ≡ got w end)
    (old_d old_o : List ℕ) (r : PlanRead) (ds os : List ℕ) (v : Reads bs old_d old_o r ds os) where
  closes_so : read_gives bs old_d old_o ≡ delivered (closing bs k w.delays w.offsets end) old_d old_o
  unfolding read_gives meaning body
  closes_so = rw (t, e, f)

  pub left_over_first : end < length bs → RefusedAt left_over end r old_d ds old_o os
  left_over_first h =
      refused_so bs old_d old_o r left_over end (sym (closes_so ∙ bytes_left_over bs k w.delays w.offsets end old_d old_o h)) v

  pub after_the_last_number : Bytes bs → length bs ≤ end → (Clear k.period (span_of k) w.delays w.offsets → ⊥)
      → (i : ℕ) × (j : ℕ) × (c : ℕ) × FirstCollision k.period (span_of k) w.delays w.offsets i j c
      × RefusedAt not_clear j r old_d ds old_o os
  after_the_last_number b h c =
      let u = unclear k w.delays w.offsets (got_good bs k n at w end b e f) c in
      let closed = unclear_closed bs k w.delays w.offsets end old_d old_o h not_clear u.0 u.1.judged in
      (u.1.earlier, u.0, u.1.crossing, u.1.first_one, refused_so bs old_d old_o r not_clear u.0 (sym (closes_so ∙ closed)) v)
