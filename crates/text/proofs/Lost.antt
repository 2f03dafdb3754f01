-- A text that has lost one byte 10 does not begin with the text of a table, whatever stands behind it but that byte. Assumes nothing.
use mathlib.Core.Path.{◌≡◌, sym, ap, ◌∙◌, subst}
use mathlib.Core.List.{List, [], ◌∷◌, ◌++◌, append_assoc, append-nil, append_cancel_left}
use mathlib.Core.Logic.{⊎_elim}
use Prim.Native.Nat.{ℕ, zero, suc, ◌+◌, ◌≤◌, ◌<◌, ◌^◌}
use native.Mathlib.Omega.{arith}
use lib.ListN.{length, get_or, length-append, get_or-append}
use lib.Seq.{get_or_at}
use Rattle.ground.proofs.Bools.{lt_or_ge, never}
use Rattle.ground.proofs.Elements.{get_or_behind}
use Rattle.link.specs.Range.{GoodTable}
use Rattle.link.specs.declared.Link.{Link}
use Rattle.text.specs.Bytes.{newline}
use Rattle.text.specs.Decimal.{nine, value}
use Rattle.text.specs.Faults.{count_part}
use Rattle.text.specs.Writing.{glue, last_line, table_lines, text_of}
use Rattle.text.proofs.Decimals.{Digits, Decimal, digit, decimal}
use Rattle.text.proofs.Spelling.{digits_decimal}
use Rattle.text.proofs.Gluing.{AllFree, free_front, same_line, rest_begins}
use Rattle.text.proofs.Cutting.{cut, joined, joined_free, joined_behind}
use Rattle.text.proofs.Forms.{count_value}
use Rattle.text.proofs.Texts.{count_low, delay_low, lines_free, line_count, row_there, last_there}

-- the first byte is no letter, as in a row
abbrev Led : List ℕ → Type 0
Led [] = ⊥
Led (b ∷ l) = b ≤ nine

led_more : (l r : List ℕ) → Led l → Led (l ++ r)
led_more [] r h = elim h [ ]
led_more (b ∷ l) r h = h

led : (l : List ℕ) → Decimal l → Led l
led [] d = absurd (omega (arith, d.some_digit))
led (b ∷ l) d = (digit b (d.digits 0 (omega arith))).1

-- a last line begins with a letter, and has it wherever it is joined to another line
last_not_led : (n : ℕ) (r : List ℕ) → Led (last_line n ++ r) → ⊥
unfolding last_line
last_not_led n r h = omega arith

last_not_digits : (n : ℕ) (l : List ℕ) → Digits (l ++ last_line n) → ⊥
unfolding last_line
last_not_digits n l d =
    let w = digit (get_or (l ++ last_line n) (length l) 0) (d (length l) (omega (arith, length-append l (last_line n)))) in
    omega (arith, get_or_behind l (last_line n) (length l) 0 0 (omega arith))

-- a last line tells its number
one_count : (n m : ℕ) → n < 10 ^ 8 → m < 10 ^ 8 → last_line n ≡ last_line m → n ≡ m
one_count n m h g e = sym (count_value n h) ∙ ap (λ (l : List ℕ). value (count_part l)) e ∙ count_value m g

-- where two lines become one, each line up to there that begins with a digit still does so
joined_led : (l m : List ℕ) (qs ps : List (List ℕ)) (j : ℕ) → j ≤ length ps → Led (get_or (ps ++ l ∷ m ∷ qs) j [])
    → Led (get_or (ps ++ (l ++ m) ∷ qs) j [])
joined_led l m qs [] zero h w = led_more l m w
joined_led l m qs [] (suc j) h w = absurd (omega arith)
joined_led l m qs (p ∷ ps) zero h w = w
joined_led l m qs (p ∷ ps) (suc j) h w = joined_led l m qs ps j (omega arith) w

-- the lines of a table of n rows: what tells its rows from its last line
record Tabular (ls : List (List ℕ)) (n : ℕ) : Type 0 where
  pub some_row : 1 ≤ n
  pub low : n < 10 ^ 8
  pub free : AllFree ls
  pub count : length ls ≡ suc (suc (suc n))
  pub row : (i : ℕ) → i < n → Decimal (get_or ls (suc (suc i)) [])
  pub last : get_or ls (suc (suc n)) [] ≡ last_line n

table_lines_lem : (k : Link) (ds : List ℕ) → GoodTable k ds → Tabular (table_lines k ds) (length ds)
table_lines_lem k ds g =
    record {
      some_row = g.rows_low;
      low = count_low k ds g;
      free = lines_free k ds g;
      count = line_count k ds g;
      row = λ i h. rw (row_there k ds g i h) (decimal _ (digits_decimal (get_or ds i 0) (delay_low k ds g i h)));
      last = last_there k ds g;
    }

-- a text that begins with the lines ms of a table of n' rows
module _ (ms : List (List ℕ)) (n' : ℕ) (s' : Tabular ms n') (rest : List ℕ) where
  -- as many rows as stand first are rows of the table
  rows_first : (ls : List (List ℕ)) (z : List ℕ) → AllFree ls → glue ls ++ z ≡ glue ms ++ rest → (u : ℕ) → suc (suc u) ≤ length ls
      → ((i : ℕ) → i < u → Led (get_or ls (suc (suc i)) [])) → u ≤ n'
  rows_first ls z f t u h w =
      ⊎_elim (λ l. let e = same_line ls ms f s'.free z rest t (suc (suc n')) (omega arith) (omega (arith, s'.count)) in
      absurd (last_not_led n' [] (led_more (last_line n') [] (subst Led (e ∙ s'.last) (w n' l)))))
      (λ l. l) (lt_or_ge n' u)

  -- a last line in a row's place is the table's own
  own_last : (i n : ℕ) (q r : List ℕ) → i ≤ n'
      → get_or ms (suc (suc i)) [] ++ q ≡ last_line n ++ r → get_or ms (suc (suc i)) [] ≡ last_line i
  own_last i n q r h e =
      ⊎_elim (λ l. absurd (last_not_led n r (subst Led e (led_more (get_or ms (suc (suc i)) []) q (led _ (s'.row i l))))))
      (λ l. let c : n' ≡ i = omega arith in rw c at s'.last) (lt_or_ge i n')

  -- the last byte 10 is lost: the table has the same last line, and its byte 10 is the next byte
  last_lost : (ps : List (List ℕ)) (l : List ℕ) (n : ℕ) → Tabular (ps ++ l ∷ []) n → (z : List ℕ)
      → glue ps ++ (l ++ z) ≡ glue ms ++ rest → (r : List ℕ) × (z ≡ newline ∷ r)
  last_lost ps l n s z t =
      let many : length ps ≡ suc (suc n) = omega (arith, length-append ps (l ∷ []), s.count) in
      let f = free_front ps (l ∷ []) s.free in
      let few = rows_first ps (l ++ z) f t n (omega arith)
      (λ i g. subst Led (get_or-append ps (l ∷ []) [] (suc (suc i)) (omega arith)) (led _ (s.row i g))) in
      let last : l ≡ last_line n = sym (get_or_at ps l [] [] (suc (suc n)) many) ∙ s.last in
      let w = rest_begins ps ms f s'.free (l ++ z) rest t (suc (suc n)) many (omega (arith, s'.count)) in
      let e : last_line n ++ z ≡ get_or ms (suc (suc n)) [] ++ newline ∷ w.0 = ap (λ (r : List ℕ). r ++ z) (sym last) ∙ w.1 in
      let o = own_last n n (newline ∷ w.0) z few (sym e) in
      (w.0, append_cancel_left (last_line n) z (newline ∷ w.0) (e ∙ ap (λ (r : List ℕ). r ++ newline ∷ w.0) o))

  -- two lines become one, of a table that had suc n rows
  module _ (l m : List ℕ) (qs ps : List (List ℕ)) (n : ℕ) (s : Tabular (ps ++ l ∷ m ∷ qs) (suc n)) (z : List ℕ)
      (t : glue (ps ++ (l ++ m) ∷ qs) ++ z ≡ glue ms ++ rest) where
    many : length ps + length qs ≡ suc (suc n)
    many = omega (arith, length-append ps (l ∷ m ∷ qs), s.count)

    fewer : length (ps ++ (l ++ m) ∷ qs) ≡ suc (suc (suc n))
    fewer = omega (arith, length-append ps ((l ++ m) ∷ qs), many)

    -- if its lines are rows up to the place u, but for the last line, they are rows of the table
    rows_joined : (u : ℕ) → u ≤ suc n → ((i : ℕ) → i < u → length ps < suc (suc i) → i < n) → u ≤ n'
    rows_joined u h w =
        rows_first (ps ++ (l ++ m) ∷ qs) z (joined_free l m qs ps s.free) t u (omega (arith, fewer)) (λ i g.
        ⊎_elim (λ b. subst Led (sym (joined_behind l m qs ps (suc (suc i)) b)) (led _ (s.row (suc i) (omega (arith, w i g b)))))
        (λ b. joined_led l m qs ps (suc (suc i)) b (led _ (s.row i (omega arith)))) (lt_or_ge (length ps) (suc (suc i))))

    same_there : n ≤ n' → get_or (ps ++ (l ++ m) ∷ qs) (suc (suc n)) [] ≡ get_or ms (suc (suc n)) []
    same_there h =
        same_line (ps ++ (l ++ m) ∷ qs) ms (joined_free l m qs ps s.free) s'.free z rest t (suc (suc n))
        (omega (arith, fewer)) (omega (arith, s'.count))

  -- the last row and the last line become one: it begins with a digit, and has an `e`
  row_and_last : (l m : List ℕ) (ps : List (List ℕ)) (n : ℕ) → Tabular (ps ++ l ∷ m ∷ []) (suc n) → (z : List ℕ)
      → glue (ps ++ (l ++ m) ∷ []) ++ z ≡ glue ms ++ rest → ⊥
  row_and_last l m ps n s z t =
      let many = many l m [] ps n s z t in
      let few = rows_joined l m [] ps n s z t (suc n) (omega arith) (λ i g b. omega arith) in
      let last : m ≡ last_line (suc n) = sym (get_or_behind ps (l ∷ m ∷ []) (suc (suc (suc n))) 1 [] (omega arith)) ∙ s.last in
      let e : get_or ms (suc (suc n)) [] ≡ l ++ last_line (suc n) = sym (same_there l m [] ps n s z t (omega arith))
      ∙ get_or_at ps (l ++ m) [] [] (suc (suc n)) (omega arith) ∙ ap (λ (r : List ℕ). l ++ r) last in
      last_not_digits (suc n) l (subst Digits e (s'.row n few).digits)

  -- two lines before the last become one: the last line tells a row too many
  two_rows : (l m q : List ℕ) (qs ps : List (List ℕ)) (n : ℕ) → Tabular (ps ++ l ∷ m ∷ q ∷ qs) (suc n) → (z : List ℕ)
      → glue (ps ++ (l ++ m) ∷ q ∷ qs) ++ z ≡ glue ms ++ rest → ⊥
  two_rows l m q qs ps n s z t =
      let many = many l m (q ∷ qs) ps n s z t in
      let few = rows_joined l m (q ∷ qs) ps n s z t n (omega arith) (λ i g b. g) in
      let e : get_or ms (suc (suc n)) [] ≡ last_line (suc n) = sym (same_there l m (q ∷ qs) ps n s z t few)
      ∙ joined_behind l m (q ∷ qs) ps (suc (suc n)) (omega arith) ∙ s.last in
      let o = own_last n (suc n) [] [] few (ap (λ (r : List ℕ). r ++ []) e) in
      omega (arith, one_count (suc n) n s.low (omega (arith, s.low)) (sym e ∙ o))

  lost_at : (ps : List (List ℕ)) (l : List ℕ) (qs : List (List ℕ)) (n : ℕ) → Tabular (ps ++ l ∷ qs) n
      → (z : List ℕ) → ((r : List ℕ) → z ≡ newline ∷ r → ⊥) → ((glue ps ++ l) ++ glue qs) ++ z ≡ glue ms ++ rest → ⊥
  unfolding glue
  lost_at ps l qs zero s z h t = omega (arith, s.some_row)
  lost_at ps l [] (suc n) s z h t =
      let w = last_lost ps l (suc n) s z
      (sym (append_assoc (glue ps) l z) ∙ ap (λ (r : List ℕ). r ++ z) (sym (append-nil (glue ps ++ l))) ∙ t) in
      h w.0 w.1
  lost_at ps l (m ∷ []) (suc n) s z h t = row_and_last l m ps n s z (ap (λ (r : List ℕ). r ++ z) (joined l m [] ps) ∙ t)
  lost_at ps l (m ∷ q ∷ qs) (suc n) s z h t = two_rows l m q qs ps n s z (ap (λ (r : List ℕ). r ++ z) (joined l m (q ∷ qs) ps) ∙ t)

module _ (k k' : Link) (ds ds' : List ℕ) (g : GoodTable k ds) (g' : GoodTable k' ds') (a b : List ℕ)
    (e : text_of k ds ≡ a ++ newline ∷ b) where
  -- whatever stands behind it, unless that begins with the lost byte 10, it begins with the text of no table
  pub lost_in_front : (z rest : List ℕ) → ((r : List ℕ) → z ≡ newline ∷ r → ⊥) → (a ++ b) ++ z ≡ text_of k' ds' ++ rest → ⊥
  lost_in_front z rest h t =
      let c = cut (table_lines k ds) (lines_free k ds g) a b e in
      lost_at (table_lines k' ds') (length ds') (table_lines_lem k' ds' g') rest c.before c.here c.behind (length ds)
      (rw c.lines at (table_lines_lem k ds g)) z h
      (ap (λ (s : List ℕ). ((glue c.before ++ c.here) ++ s) ++ z) (sym c.rest)
      ∙ ap (λ (s : List ℕ). (s ++ b) ++ z) (sym c.front) ∙ t)

  -- and alone it is no table's text
  pub lost : text_of k' ds' ≡ a ++ b → ⊥
  lost t = lost_in_front [] [] (λ r e. never cc) (append-nil (a ++ b) ∙ sym t ∙ sym (append-nil (text_of k' ds')))
