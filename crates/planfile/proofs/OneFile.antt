-- Bytes that are accepted are the bytes of the plan they mean. Assumes nothing.
use mathlib.Core.Path.{◌≡◌, refl, sym, ap, ◌∙◌}
use mathlib.Core.Bool.{Bool, true, false, cond}
use mathlib.Core.List.{List, [], ◌∷◌, ◌++◌, append_assoc, append-nil}
use mathlib.Core.Logic.{⊎_elim}
use Prim.Native.Nat.{ℕ, zero, suc, ◌-◌, ◌≤◌, ◌<◌}
use native.Mathlib.Omega.{arith}
use lib.ListN.{length, get_or, drop, drop_of_length-le}
use lib.Seq.{drop-drop}
use Rattle.link.specs.Limits.{max_delay, bad_delay, bad_offset}
use Rattle.link.specs.Range.{GoodPlan}
use Rattle.link.specs.declared.Link.{Link}
use Rattle.ground.specs.Judging.{first}
use Rattle.checker.specs.Judging.{clear_faults}
use Rattle.ground.specs.Judging.{Fine}
use Rattle.ground.proofs.Answers.{let_through}
use Rattle.ground.proofs.Bools.{never, lt_or_ge}
use Rattle.planfile.specs.Bytes.{Bytes}
use Rattle.planfile.specs.Number.{number_bytes}
use Rattle.planfile.specs.Format.{tag, header_bytes, rows_bytes, plan_bytes}
use Rattle.planfile.specs.FileMeaning.{Step, got, stopped, number, Head, header, Row, row, Rows, rows, Meaning, plan, refused}
use Rattle.ground.specs.Words.{begins}
use Rattle.planfile.specs.FileMeaning.{means, closing, body, meaning}
use Rattle.ground.proofs.Beginning.{begins_with}
use Rattle.planfile.proofs.Closing.{some_left, none_left}
use Rattle.planfile.proofs.Encoding.{drop_bytes, number_only}
use Rattle.planfile.proofs.RoundTrip.{three}
use Rattle.planfile.proofs.Accepting.{before, Took, took, Headed, headed}

-- the bytes of a number that was got stand at its place
stands : (bs : List ℕ) (at lo hi v next : ℕ) → Bytes bs → Took bs at lo hi v next → drop at bs ≡ number_bytes v ++ drop next bs
stands bs at lo hi v next h t =
    (number_only (drop at bs) v t.bytes (drop_bytes at bs h) t.reads).0 ∙ rw (drop-drop t.bytes at bs, ← t.ends)

header_stands : (bs : List ℕ) (at : ℕ) (h : Head) (next : ℕ) → Bytes bs → Headed bs at h next →
    drop at bs ≡ header_bytes h.link h.rows ++ drop next bs
unfolding header_bytes
header_stands bs at h next b w =
    let whole = three (number_bytes h.link.period) (number_bytes h.link.size) (number_bytes h.rows) (drop next bs) in
    stands bs _ _ _ _ _ b w.period ∙ rw (stands bs _ _ _ _ _ b w.size, stands bs _ _ _ _ _ b w.rows) (sym whole)

same_row : (bs : List ℕ) (at : ℕ) {d d' o o' m m' : ℕ} → d ≡ d' → o ≡ o' → m ≡ m' →
    drop at bs ≡ number_bytes d ++ (number_bytes o ++ drop m bs) → drop at bs ≡ number_bytes d' ++ (number_bytes o' ++ drop m' bs)
same_row bs at e f g h = rw (← e, ← f, ← g) h

-- a row that was got: its bytes, and its ranges
record GotRow (bs : List ℕ) (p at : ℕ) (r : Row) (next : ℕ) : Type 0 where
  stands : drop at bs ≡ number_bytes r.delay ++ (number_bytes r.offset ++ drop next bs)
  delay : r.delay ≤ max_delay
  offset : r.offset ≤ p - 1

got_row : (bs : List ℕ) (p at : ℕ) (r : Row) (next : ℕ) → Bytes bs → row bs p at ≡ got r next → GotRow bs p at r next
unfolding row
got_row bs p at r next h e =
    let d = before (number bs at 0 max_delay bad_delay) _ _ _ e in
    let o = before (number bs d.place 0 (p - 1) bad_offset) _ _ _ d.after in
    let x = took bs at 0 max_delay bad_delay _ _ d.here in
    let y = took bs d.place 0 (p - 1) bad_offset _ _ o.here in
    let d_is : d.value ≡ r.delay = cc o.after in
    let o_is : o.value ≡ r.offset = cc o.after in
    let ends : o.place ≡ next = cc o.after in
    record {
      stands = same_row bs at d_is o_is ends (stands bs _ _ _ _ _ h x ∙ rw (stands bs _ _ _ _ _ h y));
      delay = rw d_is at x.high;
      offset = rw o_is at y.high;
    }

-- what holds of the first and of all others holds of all
all_cons : (P : ℕ → Type 0) (x : ℕ) (xs : List ℕ) → P x → ((i : ℕ) → i < length xs → P (get_or xs i 0)) → (i : ℕ) → i < length (x ∷ xs) →
    P (get_or (x ∷ xs) i 0)
all_cons P x xs p q zero h = p
all_cons P x xs p q (suc i) h = q i (omega arith)

-- n rows that were got after the rows xs and ys, and their bytes
record Got (bs : List ℕ) (p n : ℕ) (xs ys : List ℕ) (at : ℕ) (w : Rows) (end : ℕ) : Type 0 where
  ds : List ℕ
  os : List ℕ
  ds_many : length ds ≡ n
  os_many : length os ≡ n
  delays : w.delays ≡ xs ++ ds
  offsets : w.offsets ≡ ys ++ os
  stand : drop at bs ≡ rows_bytes ds os ++ drop end bs
  low_delays : (i : ℕ) → i < length ds → get_or ds i 0 ≤ max_delay
  low_offsets : (i : ℕ) → i < length os → get_or os i 0 ≤ p - 1

got_rows : (bs : List ℕ) (p n : ℕ) (xs ys : List ℕ) (at : ℕ) (w : Rows) (end : ℕ) → Bytes bs → rows bs p n xs ys at ≡ got w end →
    Got bs p n xs ys at w end
unfolding rows rows_bytes
got_rows bs p zero xs ys at w end h e =
    let ends : at ≡ end = cc in
    record {
      ds = [];
      os = [];
      ds_many = refl;
      os_many = refl;
      delays = cc (append-nil xs);
      offsets = cc (append-nil ys);
      stand = rw ends;
      low_delays = λ i l. absurd (omega arith);
      low_offsets = λ i l. absurd (omega arith);
    }
got_rows bs p (suc n) xs ys at w end h e =
    let r = before (row bs p at) _ _ _ e in
    let g = got_row bs p at r.value r.place h r.here in
    let q = got_rows bs p n (xs ++ (r.value.delay ∷ [])) (ys ++ (r.value.offset ∷ [])) r.place w end h r.after in
    let whole = three (number_bytes r.value.delay) (number_bytes r.value.offset) (rows_bytes q.ds q.os) (drop end bs) in
    record {
      ds = r.value.delay ∷ q.ds;
      os = r.value.offset ∷ q.os;
      ds_many = ap suc q.ds_many;
      os_many = ap suc q.os_many;
      delays = q.delays ∙ append_assoc xs (r.value.delay ∷ []) q.ds;
      offsets = q.offsets ∙ append_assoc ys (r.value.offset ∷ []) q.os;
      stand = g.stands ∙ rw q.stand (sym whole);
      low_delays = all_cons (λ x. x ≤ max_delay) r.value.delay q.ds g.delay q.low_delays;
      low_offsets = all_cons (λ x. x ≤ p - 1) r.value.offset q.os g.offset q.low_offsets;
    }

same_plan : (k : Link) {ds ds' os os' : List ℕ} → ds ≡ ds' → os ≡ os' → GoodPlan k ds os → GoodPlan k ds' os'
same_plan k e f g = rw (← e, ← f) g

-- header and rows that were got are a plan in range
pub got_good : (bs : List ℕ) (k : Link) (n at : ℕ) (w : Rows) (end : ℕ) → Bytes bs → header bs 4 ≡ got (record { link = k; rows = n }) at →
    rows bs k.period n [] [] at ≡ got w end → GoodPlan k w.delays w.offsets
got_good bs k n at w end h e f =
    let a = headed bs 4 (record { link = k; rows = n }) at e in
    let g = got_rows bs k.period n [] [] at w end h f in
    let low = a.period.low in
    same_plan k (sym g.delays) (sym g.offsets)
    (record {
      table = record {
        period_low = a.period.low;
        period_high = a.period.high;
        span_low = a.size.low;
        span_high = a.size.high;
        rows_low = rw g.ds_many a.rows.low;
        rows_high = rw g.ds_many a.rows.high;
        delays = g.low_delays;
      };
      as_many = g.os_many ∙ sym g.ds_many;
      offsets = λ i l. omega (arith, g.low_offsets i l);
    })

-- what came before a plan
record Came {A : Type 0} (s : Step A) (f : A → ℕ → Meaning) (m : Meaning) : Type 0 where
  value : A
  place : ℕ
  here : s ≡ got value place
  after : f value place ≡ m

came : {A : Type 0} (s : Step A) (f : A → ℕ → Meaning) (k : Link) (ds os : List ℕ) → means s f ≡ plan k ds os → Came s f (plan k ds os)
came (got a n) f k ds os e = record { value = a; place = n; here = refl; after = e }
came (stopped n p) f k ds os e = never (cc)

-- a plan was closed: nothing is left over, the judgment is fine, and it is that plan
record Closed (bs : List ℕ) (k k' : Link) (ds ds' os os' : List ℕ) (at : ℕ) : Type 0 where
  all : length bs ≤ at
  fine : first (clear_faults k' ds' os') ≡ Fine
  same_link : k ≡ k'
  same_delays : ds ≡ ds'
  same_offsets : os ≡ os'

closed : (bs : List ℕ) (k k' : Link) (ds ds' os os' : List ℕ) (at : ℕ) → closing bs k ds os at ≡ plan k' ds' os' →
    Closed bs k k' ds ds' os os' at
closed bs k k' ds ds' os os' at e = ⊎_elim some none (lt_or_ge at (length bs))
  where
    some : at < length bs → Closed bs k k' ds ds' os os' at
    some h = never (cc (some_left bs k ds os at h))

    none : length bs ≤ at → Closed bs k k' ds ds' os os' at
    none h =
        let w = let_through refused (first (clear_faults k ds os)) (λ n q h. never (cc)) (sym e ∙ none_left bs k ds os at h) in
        let same = w.1 in
        let k_is : k ≡ k' = cc in
        let d_is : ds ≡ ds' = cc in
        let o_is : os ≡ os' = cc in
        record {
          all = h;
          fine = rw (← k_is, ← d_is, ← o_is) w.0;
          same_link = k_is;
          same_delays = d_is;
          same_offsets = o_is;
        }

-- the bytes of an accepted file, and that its plan is judged fine
pub record Accepted (bs : List ℕ) (k : Link) (ds os : List ℕ) : Type 0 where
  pub bytes : bs ≡ plan_bytes k ds os
  pub fine : first (clear_faults k ds os) ≡ Fine

body_accepted : (bs : List ℕ) (k : Link) (ds os : List ℕ) → Bytes bs → bs ≡ tag ++ drop 4 bs → body bs 4 ≡ plan k ds os →
    Accepted bs k ds os
unfolding body plan_bytes
body_accepted bs k ds os h t e =
    let a = came (header bs 4) _ k ds os e in
    let b = came (rows bs a.value.link.period a.value.rows [] [] a.place) _ k ds os a.after in
    let c = closed bs a.value.link k b.value.delays ds b.value.offsets os b.place b.after in
    let g = got_rows bs a.value.link.period a.value.rows [] [] a.place b.value b.place h b.here in
    let d_is : g.ds ≡ ds = sym g.delays ∙ c.same_delays in
    let o_is : g.os ≡ os = sym g.offsets ∙ c.same_offsets in
    let n_is : a.value.rows ≡ length ds = sym g.ds_many ∙ ap length d_is in
    let head = header_stands bs 4 a.value a.place h (headed bs 4 a.value a.place a.here) in
    let left : rows_bytes g.ds g.os ++ drop b.place bs ≡ rows_bytes ds os = rw (d_is, o_is, drop_of_length-le bs c.all)
    (append-nil (rows_bytes ds os)) in
    record { bytes = t ∙ rw (head, g.stand, left, c.same_link, n_is); fine = c.fine }

pub accepted : (bs : List ℕ) (k : Link) (ds os : List ℕ) → Bytes bs → meaning bs ≡ plan k ds os → Accepted bs k ds os
unfolding meaning
accepted bs k ds os h e = go (begins tag bs) _ refl e
  where
    go : (b : Bool) (n : ℕ) → begins tag bs ≡ b → cond b (body bs (length tag)) (refused n 0) ≡ plan k ds os → Accepted bs k ds os
    go true n t f = body_accepted bs k ds os h (begins_with tag bs t) f
    go false n t f = never (cc)
