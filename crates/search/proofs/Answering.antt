-- How the code's answer with so many tests to spend follows from the answers of its parts. Assumes nothing.
use mathlib.Core.Path.{◌≡◌, refl, sym, ap, ◌∙◌}
use mathlib.Core.Logic.{⊎_elim}
use mathlib.Core.Bool.{Bool, true, false}
use mathlib.Core.List.{List}
use Prim.Native.Nat.{ℕ, ◌+◌, ◌-◌, ◌<◌, ◌≤◌}
use native.Mathlib.Nat.{sub-zero, add_assoc}
use native.Mathlib.Omega.{arith}
use lib.Dec.{leb}
use borrow.Author.Tests.{le-leb, lt-leb, leb-true, leb-false}
use Rattle.ground.proofs.Bools.{lt_or_ge}
use Rattle.search.specs.Builds.{Out, found, none}
use Rattle.search.specs.Search.{more, or_else, verdict, leaves, Answered}
use Rattle.search.specs.declared.Hunt.{Hunt}
use Rattle.search.specs.declared.Hunt.TheVariants.{Found, Nothing, Spent}

-- tests are added up
more_more : (n m : ℕ) (o : Out) → more n (more m o) ≡ more (n + m) o
unfolding more
more_more n m (found s k) = ap (found s) (sym (add_assoc n m k))
more_more n m (none k) = ap none (sym (add_assoc n m k))

pub more_or : (n : ℕ) (a b : Out) → or_else (more n a) b ≡ more n (or_else a b)
unfolding more or_else
more_or n (found s k) b = refl
more_or n (none k) b = sym (more_more n k b)

pub more_zero : (o : Out) → more 0 o ≡ o
unfolding more
more_zero (found s k) = ap (found s) (omega arith)
more_zero (none k) = ap none (omega arith)

-- the whole search has ended: with no candidate, with every row placed, or with nothing to spend
pub ended : (l : ℕ) (s : List ℕ) → Answered l s (none 0) (Nothing l) s
unfolding verdict leaves
ended l s = record { told = rw (le-leb 0 l (omega arith), sub-zero l); kept = refl }

pub all_placed : (l : ℕ) (s : List ℕ) → Answered l s (found s 0) (Found l) s
unfolding verdict leaves
all_placed l s = record { told = rw (le-leb 0 l (omega arith), sub-zero l); kept = rw (le-leb 0 l (omega arith)) }

pub broke : (l : ℕ) (s : List ℕ) (o : Out) → l ≡ 0 → Answered l s (more 1 o) Spent s
unfolding verdict leaves more
broke l s (found x n) e = record { told = rw (lt-leb (1 + n) l (omega arith)); kept = rw (lt-leb (1 + n) l (omega arith)) }
broke l s (none n) e = record { told = rw (lt-leb (1 + n) l (omega arith)); kept = refl }

-- n tests more, with n tests more to spend
module _ (l n : ℕ) (s : List ℕ) where
  fits_more : (m : ℕ) → n ≤ l → leb (n + m) l ≡ leb m (l - n)
  fits_more m h = go (leb m (l - n)) refl
    where
      go : (x : Bool) → leb m (l - n) ≡ x → leb (n + m) l ≡ x
      go true e = le-leb (n + m) l (omega (arith, leb-true m (l - n) e))
      go false e = lt-leb (n + m) l (omega (arith, leb-false m (l - n) e))

  pub spent_more : (o : Out) (h : Hunt) (s' : List ℕ) → n ≤ l → Answered (l - n) s o h s' → Answered l s (more n o) h s'
  unfolding verdict leaves more
  spent_more (found x m) h s' g a =
      let q : l - (n + m) ≡ l - n - m = omega arith in
      record { told = a.told ∙ rw (fits_more m g, q); kept = a.kept ∙ rw (fits_more m g) }
  spent_more (none m) h s' g a =
      let q : l - (n + m) ≡ l - n - m = omega arith in record { told = a.told ∙ rw (fits_more m g, q); kept = a.kept }

-- the tests of a search
abbrev pub tests : Out → ℕ
tests (found s n) = n
tests (none n) = n

-- what each answer says of the search o, and of the offsets that it leaves
module _ (l : ℕ) (s s' : List ℕ) (o : Out) where
  pub record Finds (k : ℕ) : Type 0 where
    pub taken : ℕ
    pub is : o ≡ found s' taken
    pub enough : taken ≤ l
    pub rest : k ≡ l - taken

  pub record Fails (k : ℕ) : Type 0 where
    pub taken : ℕ
    pub is : o ≡ none taken
    pub enough : taken ≤ l
    pub rest : k ≡ l - taken
    pub same : s' ≡ s

  pub record Breaks : Type 0 where
    pub above : l < tests o
    pub same : s' ≡ s

  abbrev pub Ends : Hunt → Type 0
  Ends (Found k) = Finds k
  Ends (Nothing k) = Fails k
  Ends Spent = Breaks

  pub ends : (h : Hunt) → Answered l s o h s' → Ends h
  unfolding verdict leaves
  ends h a = go o refl a.told a.kept
    where
      go : (x : Out) → o ≡ x → h ≡ verdict l x → s' ≡ leaves l s x → Ends h
      go (found x n) e f g =
          ⊎_elim
          (λ q. let m : h ≡ Spent = f ∙ rw (lt-leb n l q) in rw m (record { above = rw e q; same = g ∙ rw (lt-leb n l q) }))
          (λ q. let m : h ≡ Found (l - n) = f ∙ rw (le-leb n l q) in
          let left : s' ≡ x = g ∙ rw (le-leb n l q) in
          rw m (record { taken = n; is = e ∙ ap (λ (y : List ℕ). found y n) (sym left); enough = q; rest = refl })) (lt_or_ge l n)
      go (none n) e f g =
          ⊎_elim (λ q. let m : h ≡ Spent = f ∙ rw (lt-leb n l q) in rw m (record { above = rw e q; same = g }))
          (λ q. let m : h ≡ Nothing (l - n) = f ∙ rw (le-leb n l q) in
          rw m (record { taken = n; is = e; enough = q; rest = refl; same = g })) (lt_or_ge l n)

-- and the way back
pub as_found : (l : ℕ) (s s' : List ℕ) (o : Out) (n k : ℕ) → o ≡ found s' n → n ≤ l → k ≡ l - n → Answered l s o (Found k) s'
unfolding verdict leaves
as_found l s s' o n k e h f = rw (e, f) (record { told = rw (le-leb n l h); kept = rw (le-leb n l h) })

pub as_nothing : (l : ℕ) (s : List ℕ) (o : Out) (n k : ℕ) → o ≡ none n → n ≤ l → k ≡ l - n → Answered l s o (Nothing k) s
unfolding verdict leaves
as_nothing l s o n k e h f = rw (e, f) (record { told = rw (le-leb n l h); kept = refl })

pub as_spent : (l : ℕ) (s : List ℕ) (o : Out) → l < tests o → Answered l s o Spent s
unfolding verdict leaves
as_spent l s (found x n) h = record { told = rw (lt-leb n l h); kept = rw (lt-leb n l h) }
as_spent l s (none n) h = record { told = rw (lt-leb n l h); kept = refl }

-- the same answer where s stood in place of r
module _ (l : ℕ) (r s s' : List ℕ) (o : Out) where
  pub found_from : (k : ℕ) → Answered l r o (Found k) s' → Answered l s o (Found k) s'
  found_from k a = let w = ends l r s' o (Found k) a in as_found l s s' o w.taken k w.is w.enough w.rest

  pub nothing_from : (k : ℕ) → Answered l r o (Nothing k) s' → Answered l s o (Nothing k) s
  nothing_from k a = let w = ends l r s' o (Nothing k) a in as_nothing l s o w.taken k w.is w.enough w.rest

  pub spent_from : Answered l r o Spent s' → Answered l s o Spent s
  spent_from a = as_spent l s o (ends l r s' o Spent a).above

tests_more : (n : ℕ) (o : Out) → tests (more n o) ≡ n + tests o
unfolding more
tests_more n (found s m) = refl
tests_more n (none m) = refl

tests_or : (o w : Out) → tests o ≤ tests (or_else o w)
unfolding or_else
tests_or (found s m) w = omega arith
tests_or (none m) w = omega (arith, tests_more m w)

-- a candidate's answer o, and what the next ones say
module _ (l : ℕ) (s s' : List ℕ) (o rest : Out) where
  pub or_found : (k : ℕ) → Answered l s o (Found k) s' → Answered l s (or_else o rest) (Found k) s'
  unfolding or_else
  or_found k a =
      let w = ends l s s' o (Found k) a in
      as_found l s s' (or_else o rest) w.taken k (ap (λ (x : Out). or_else x rest) w.is) w.enough w.rest

  pub or_spent : Answered l s o Spent s' → Answered l s (or_else o rest) Spent s
  or_spent a = as_spent l s (or_else o rest) (omega (arith, (ends l s s' o Spent a).above, tests_or o rest))

  pub or_next : (k : ℕ) (h : Hunt) (s'' : List ℕ) → Answered l s o (Nothing k) s' → Answered k s rest h s''
      → Answered l s (or_else o rest) h s''
  unfolding or_else
  or_next k h s'' a b =
      let w = ends l s s' o (Nothing k) a in
      rw w.is (spent_more l w.taken s rest h s'' w.enough (rw w.rest at b))

pub told_as : {l : ℕ} {s : List ℕ} {o : Out} {h h' : Hunt} {s' : List ℕ} → h ≡ h' → Answered l s o h s' → Answered l s o h' s'
told_as e a = record { told = sym e ∙ a.told; kept = a.kept }
