-- Which move `least_move` takes, whatever the test: one that has the test, and that no other one with it comes before; none where none has
-- it. There is only one such, so moves go by the test alone. Assumes nothing.
use mathlib.Core.Path.{◌≡◌, refl, sym, ◌∙◌, subst}
use mathlib.Core.Bool.{Bool, true, false, cond}
use mathlib.Core.Logic.{◌⊎◌, inl, inr, ⊎_elim}
use Prim.Native.Nat.{ℕ, ◌≤◌, ◌<◌}
use native.Mathlib.Omega.{arith}
use borrow.Author.Tests.{ltb-true}
use Rattle.ground.specs.Least.{least, some}
use Rattle.ground.proofs.Bools.{clash, is_false, lt_or_ge}
use Rattle.ground.proofs.Minimum.{least_low, some_at, some_has, none_has}
use Rattle.oneslot.specs.Moves.{Move, None, Row, opens, move_of, gives_way, least_move}
use Rattle.oneslot.specs.Right.{NotAfter}

-- two that are not after each other agree, and what decides next decides both ways
agree : {R S : Type 0} (a b : ℕ) → (a < b) ⊎ ((a ≡ b) × R) → (b < a) ⊎ ((b ≡ a) × S) → (a ≡ b) × R × S
agree a b (inl m) (inl o) = absurd (omega arith)
agree a b (inl m) (inr o) = absurd (omega arith)
agree a b (inr m) (inl o) = absurd (omega arith)
agree a b (inr m) (inr o) = (m.0, m.1, o.1)

module _ (p : ℕ) (q : ℕ → ℕ → ℕ → Bool) (n : ℕ) where
  -- row i of n rows, to x, with y for the new row: it has q, and is not after another that has it
  pub record Chosen (i x y : ℕ) : Type 0 where
    pub row : i < n
    pub new_offset : x < p
    pub offset : y < p
    pub has : q i x y ≡ true
    pub least : (i' x' y' : ℕ) → i' < n → x' < p → y' < p → q i' x' y' ≡ true → NotAfter i x y i' x' y'

  -- a move is the least with q, or none has it
  abbrev pub Chooses : Move → Type 0
  Chooses None = (i x y : ℕ) → i < n → x < p → y < p → q i x y ≡ false
  Chooses (Row i x y) = Chosen i x y

  opens_way : (i x y : ℕ) → y < p → q i x y ≡ true → opens p (q i) x ≡ true
  unfolding opens
  opens_way i x y b h = some_at (q i x) p y b h

  gives_way_lem : (i x y : ℕ) → x < p → y < p → q i x y ≡ true → gives_way p q i ≡ true
  unfolding gives_way
  gives_way_lem i x y a b h = some_at (opens p (q i)) p x a (opens_way i x y b h)

  -- the three least ones that the definition names, one inside the other
  abbrev k : ℕ
  k = least (gives_way p q) n

  abbrev x : ℕ
  x = least (opens p (q k)) p

  abbrev y : ℕ
  y = least (q k x) p

  then_new : (x' y' : ℕ) → y' < p → q k x' y' ≡ true → (x < x') ⊎ ((x ≡ x') × (y ≤ y'))
  then_new x' y' b h =
      let low = least_low (opens p (q k)) p x' (opens_way k x' y' b h) in
      ⊎_elim inl (λ g. let e : x' ≡ x = omega arith in inr (sym e, least_low (q k x) p y' (rw e at h))) (lt_or_ge x x')

  in_order : (i' x' y' : ℕ) → x' < p → y' < p → q i' x' y' ≡ true → NotAfter k x y i' x' y'
  in_order i' x' y' a b h =
      let low = least_low (gives_way p q) n i' (gives_way_lem i' x' y' a b h) in
      ⊎_elim inl (λ g. let e : i' ≡ k = omega arith in inr (sym e, then_new x' y' b (rw e at h))) (lt_or_ge k i')

  module _ (e : some (gives_way p q) n ≡ true) where
    way : some (opens p (q k)) p ≡ true
    unfolding gives_way
    way = some_has (gives_way p q) n e

    room : some (q k x) p ≡ true
    unfolding opens
    room = some_has (opens p (q k)) p way

    chosen : Chosen k x y
    chosen =
        record {
          row = ltb-true _ _ e;
          new_offset = ltb-true _ _ way;
          offset = ltb-true _ _ room;
          has = some_has (q k x) p room;
          least = λ i' x' y' _. in_order i' x' y';
        }

  pub chooses : Chooses (least_move p q n)
  unfolding least_move move_of
  chooses = go (some (gives_way p q) n) refl
    where
      go : (b : Bool) → some (gives_way p q) n ≡ b → Chooses (cond b (cond (some (opens p (q k)) p) (Row k x y) None) None)
      go true e = rw (way e) (chosen e)
      go false e = λ i x y a b c. is_false _ (λ h. clash (gives_way_lem i x y b c h) (none_has (gives_way p q) n e i a))

  -- there is only one such
  only_one : (m o : Move) → Chooses m → Chooses o → m ≡ o
  only_one None None a b = refl
  only_one None (Row i x y) a b = clash b.has (a i x y b.row b.new_offset b.offset)
  only_one (Row i x y) None a b = clash a.has (b i x y a.row a.new_offset a.offset)
  only_one (Row i x y) (Row i' x' y') a b =
      let rows =
      agree i i' (a.least i' x' y' b.row b.new_offset b.offset b.has)
      (b.least i x y a.row a.new_offset a.offset a.has) in
      let news = agree x x' rows.1 rows.2 in
      let e : y ≡ y' = omega (arith, news.1, news.2) in
      rw (rows.0, news.0, e)

  -- how to show which it takes
  pub only_choice : (m : Move) → Chooses m → least_move p q n ≡ m
  only_choice m c = only_one (least_move p q n) m chooses c

  -- and what it is that it has taken
  pub taken : (m : Move) → least_move p q n ≡ m → Chooses m
  taken m e = subst Chooses e chooses

-- two tests that say the same of every move in range take the same one
pub least_move_cong : (p : ℕ) (q r : ℕ → ℕ → ℕ → Bool) (n : ℕ) → ((i x y : ℕ) → i < n → x < p → y < p → q i x y ≡ r i x y)
    → least_move p q n ≡ least_move p r n
least_move_cong p q r n h = only_choice p q n (least_move p r n) (go (least_move p r n) (chooses p r n))
  where
    go : (m : Move) → Chooses p r n m → Chooses p q n m
    go None c = λ i x y a b d. h i x y a b d ∙ c i x y a b d
    go (Row i x y) c =
        record {
          row = c.row;
          new_offset = c.new_offset;
          offset = c.offset;
          has = h i x y c.row c.new_offset c.offset ∙ c.has;
          least = λ i' x' y' a b d e. c.least i' x' y' a b d (sym (h i' x' y' a b d) ∙ e);
        }
