-- What it means that a step of the reader got something. Assumes nothing.
use mathlib.Core.Path.{◌≡◌, refl, sym}
use mathlib.Core.Bool.{Bool, true, false, cond}
use mathlib.Core.List.{List}
use Prim.Native.Nat.{ℕ, ◌+◌, ◌≤◌}
use lib.Dec.{ltb}
use lib.ListN.{drop}
use borrow.Author.Tests.{ltb-false}
use Rattle.link.specs.Limits.{max_period, max_rows, bad_period, bad_size, bad_rows}
use Rattle.ground.specs.Judging.{outside}
use Rattle.ground.proofs.Bools.{never, or_none}
use Rattle.planfile.specs.Number.{Number, Value, Cut, TooLong, Needless, read_number}
use Rattle.planfile.specs.FileMeaning.{Step, got, stopped, passing, ranged, number, Head, header}

-- a step that was followed by another got something
pub record Before {A B : Type 0} (s : Step A) (f : A → ℕ → Step B) (b : B) (n : ℕ) : Type 0 where
  pub value : A
  pub place : ℕ
  pub here : s ≡ got value place
  pub after : f value place ≡ got b n

pub before : {A B : Type 0} (s : Step A) (f : A → ℕ → Step B) (b : B) (n : ℕ) → passing s f ≡ got b n → Before s f b n
before (got a m) f b n e = record { value = a; place = m; here = refl; after = e }
before (stopped m p) f b n e = never (cc)

-- a number that was got is in its range, and stands at its place
pub record Took (bs : List ℕ) (at lo hi v next : ℕ) : Type 0 where
  pub low : lo ≤ v
  pub high : v ≤ hi
  pub bytes : ℕ
  pub reads : read_number (drop at bs) ≡ Value v bytes
  pub ends : next ≡ at + bytes

took_ranged : (bs : List ℕ) (at lo hi fault v next : ℕ) (q : Number) → read_number (drop at bs) ≡ q →
    ranged q at lo hi fault ≡ got v next → Took bs at lo hi v next
unfolding outside
took_ranged bs at lo hi fault v next (Value w n) r e = go (outside lo hi w) refl e
  where
    go : (b : Bool) → outside lo hi w ≡ b → cond b (stopped fault at) (got w (at + n)) ≡ got v next → Took bs at lo hi v next
    go true o f = never (cc)
    go false o f =
        let i = or_none (ltb w lo) (ltb hi w) o in
        let same : w ≡ v = cc in
        let ends : at + n ≡ next = cc in
        record {
          low = rw same at (ltb-false w lo i.0);
          high = rw same at (ltb-false hi w i.1);
          bytes = n;
          reads = rw same at r;
          ends = sym ends;
        }
took_ranged bs at lo hi fault v next Cut r e = never (cc)
took_ranged bs at lo hi fault v next TooLong r e = never (cc)
took_ranged bs at lo hi fault v next Needless r e = never (cc)

pub took : (bs : List ℕ) (at lo hi fault v next : ℕ) → number bs at lo hi fault ≡ got v next → Took bs at lo hi v next
unfolding number
took bs at lo hi fault v next e = took_ranged bs at lo hi fault v next (read_number (drop at bs)) refl e

-- the three numbers of a header
pub record Headed (bs : List ℕ) (at : ℕ) (h : Head) (next : ℕ) : Type 0 where
  pub at_size : ℕ
  pub at_rows : ℕ
  pub period : Took bs at 1 max_period h.link.period at_size
  pub size : Took bs at_size 1 h.link.period h.link.size at_rows
  pub rows : Took bs at_rows 1 max_rows h.rows next

same_headed : (bs : List ℕ) (at : ℕ) {h h' : Head} {m m' : ℕ} → h ≡ h' → m ≡ m' → Headed bs at h m → Headed bs at h' m'
same_headed bs at e f w = rw (← e, ← f) w

pub headed : (bs : List ℕ) (at : ℕ) (h : Head) (next : ℕ) → header bs at ≡ got h next → Headed bs at h next
unfolding header
headed bs at h next e =
    let p = before (number bs at 1 max_period bad_period) _ _ _ e in
    let s = before (number bs p.place 1 p.value bad_size) _ _ _ p.after in
    let r = before (number bs s.place 1 max_rows bad_rows) _ _ _ s.after in
    let same : ◌≡◌ {A = Head} (record { link = record { period = p.value; size = s.value }; rows = r.value }) h = cc r.after in
    let ends : r.place ≡ next = cc r.after in
    same_headed bs at same ends
    (record {
      at_size = p.place;
      at_rows = s.place;
      period = took _ _ _ _ _ _ _ p.here;
      size = took _ _ _ _ _ _ _ s.here;
      rows = took _ _ _ _ _ _ _ r.here;
    })
