-- The reader refuses with 16, 19, 20, 21 or 22 exactly where that cause is the file's first fault. Assumes nothing.
use mathlib.Core.Path.{◌≡◌, refl, sym, ap, ◌∙◌}
use mathlib.Core.Bool.{Bool, true, false, cond, not, ◌||◌}
use mathlib.Core.List.{List, []}
use mathlib.Core.Logic.{⊎_elim}
use Prim.Native.Nat.{ℕ, ◌-◌, ◌≤◌, ◌<◌}
use native.Mathlib.Omega.{arith}
use lib.Dec.{ltb}
use lib.ListN.{length, drop}
use borrow.Author.Tests.{not-true}
use Rattle.ground.specs.Judging.{first, outside, and_then}
use Rattle.ground.specs.Protocol.{gives}
use Rattle.ground.specs.Words.{begins, Differ}
use Rattle.ground.proofs.Answers.{Told, told, stopped as told_stopped, through}
use Rattle.ground.proofs.Beginning.{begins_agree, agree_begins, neither_begins}
use Rattle.ground.proofs.Bools.{never, clash, is_false, lt_or_ge}
use Rattle.ground.proofs.Faults.{all_numbers, number_of}
use Rattle.link.specs.Limits.{max_period, max_delay, max_rows, bad_period, bad_size, bad_delay, bad_rows, bad_offset, bad_length}
use Rattle.link.specs.Refusal.{link_faults, row_faults, offset_faults}
use Rattle.link.specs.declared.Link.{Link}
use Rattle.checker.specs.Judging.{clear_faults}
use Rattle.planfile.specs.Causes.{wrong_tag, cut_off, left_over}
use Rattle.planfile.specs.Number.{Number, Value, Cut, TooLong, Needless, formed, read_number, form_fault}
use Rattle.planfile.specs.Format.{tag}
use Rattle.planfile.specs.FileMeaning.{Step, got, stopped, ranged, number, Head, header, tag_fault, row, rows}
use Rattle.planfile.specs.FileMeaning.{Meaning, plan, refused, closing, rest, body, meaning}
use Rattle.planfile.specs.Answer.{refuses_read, lists, ReadGives, refuses, delivers, delivered, read_gives}
use Rattle.planfile.specs.FormFault.{NumberFault, cut, too_long, needless, RowAt, NumberAt, period, size, row_count, delay, offset}
use Rattle.planfile.specs.FormFault.{FormFault, tag_wrong, cut_tag, bad_number, bytes_left_over, form_number}
use Rattle.planfile.specs.declared.Malformed.{Malformed}
use Rattle.planfile.specs.declared.Malformed.TheVariants.{Cut as IsCut, TooLong as IsTooLong, Needless as IsNeedless}
use Rattle.planfile.proofs.NumberForms.{faulty_number, number_faulty}
use Rattle.planfile.proofs.Steps.{number_form}
use Rattle.planfile.proofs.Stopping.{stop_in, refused_in, stops_at_a_row, rows_stop}
use Rattle.planfile.proofs.Closing.{some_left, none_left}

module _ (bs : List ℕ) (n : ℕ) where
  -- a number that stops with a refusal of form does so by its form
  number_stops : (at lo hi fault q : ℕ) → form_number n ≡ true → form_number fault ≡ false → number bs at lo hi fault ≡ stopped n q →
      (at ≡ q) × NumberFault (drop at bs) n
  unfolding number
  number_stops at lo hi fault q f g e = go (read_number (drop at bs)) refl e
    where
      range : (b : Bool) (v next : ℕ) → cond b (stopped fault at) (got v next) ≡ stopped n q → (at ≡ q) × NumberFault (drop at bs) n
      range true v next h = let same : fault ≡ n = cc in clash f (rw same at g)
      range false v next h = never (cc)

      shape : (m : Malformed) → read_number (drop at bs) ≡ formed m
          → ◌≡◌ {A = Step ℕ} (stopped (form_fault (formed m)) at) (stopped n q) → (at ≡ q) × NumberFault (drop at bs) n
      shape m r h =
          let same : form_fault (formed m) ≡ n = cc in
          let place : at ≡ q = cc in
          (place, rw (← same) (faulty_number (drop at bs) m r))

      go : (w : Number) → read_number (drop at bs) ≡ w → ranged w at lo hi fault ≡ stopped n q → (at ≡ q) × NumberFault (drop at bs) n
      go (Value v k) r h = range (outside lo hi v) v _ h
      go Cut r h = shape IsCut r h
      go TooLong r h = shape IsTooLong r h
      go Needless r h = shape IsNeedless r h

  -- where a number begins
  stops_at : (at : ℕ) → NumberAt bs at → (lo hi fault q : ℕ) → form_number n ≡ true → form_number fault ≡ false →
      number bs at lo hi fault ≡ stopped n q → NumberAt bs q × NumberFault (drop q bs) n
  stops_at at w lo hi fault q f g e = let s = number_stops at lo hi fault q f g e in rw (← s.0) (w, s.1)

  header_stops : (q : ℕ) → form_number n ≡ true → header bs (length tag) ≡ stopped n q → NumberAt bs q × NumberFault (drop q bs) n
  unfolding header form_number
  header_stops q f e =
      stop_in (number bs (length tag) 1 max_period bad_period) _ n q e
      (stops_at (length tag) (period refl) 1 max_period bad_period q f refl)
      (λ p at₁ g₁ e₁. stop_in (number bs at₁ 1 p bad_size) _ n q e₁
      (stops_at at₁ (size p g₁) 1 p bad_size q f refl)
      (λ t at₂ g₂ e₂. stop_in (number bs at₂ 1 max_rows bad_rows) _ n q e₂
      (stops_at at₂ (row_count p t at₁ g₁ g₂) 1 max_rows bad_rows q f refl)
      (λ m at₃ g₃ e₃. never (cc e₃))))

  row_stops : (h : Head) (i at q : ℕ) → i < h.rows → RowAt bs h i at → form_number n ≡ true → row bs h.link.period at ≡ stopped n q →
      NumberAt bs q × NumberFault (drop q bs) n
  unfolding row form_number
  row_stops h i at q l w f e =
      stop_in (number bs at 0 max_delay bad_delay) _ n q e
      (stops_at at (delay h i l w) 0 max_delay bad_delay q f refl)
      (λ d at₁ g₁ e₁. stop_in (number bs at₁ 0 (h.link.period - 1) bad_offset) _ n q e₁
      (stops_at at₁ (offset h i d at l w g₁) 0 (h.link.period - 1) bad_offset q f refl)
      (λ o at₂ g₂ e₂. never (cc e₂)))

-- clearness is judged with other numbers
closing_stops : (bs : List ℕ) (k : Link) (ds os : List ℕ) (at n q : ℕ) → form_number n ≡ true → closing bs k ds os at ≡ refused n q →
    (at ≡ q) × (n ≡ left_over) × (at < length bs)
unfolding clear_faults link_faults row_faults offset_faults and_then all_numbers form_number
closing_stops bs k ds os at n q f e = ⊎_elim some none (lt_or_ge at (length bs))
  where
    some : at < length bs → (at ≡ q) × (n ≡ left_over) × (at < length bs)
    some h =
        let r = sym (some_left bs k ds os at h) ∙ e in
        let number : left_over ≡ n = cc in
        let place : at ≡ q = cc in
        (place, sym number, h)

    other : Told refused (first (clear_faults k ds os)) (plan k ds os) (refused n q) → (at ≡ q) × (n ≡ left_over) × (at < length bs)
    other (told_stopped m a j x) =
        let same : n ≡ m = cc in
        clash (rw same at f) (not-true _ (number_of (λ x. not (form_number x)) (clear_faults k ds os) m a refl j))
    other (through j x) = never (cc)

    none : length bs ≤ at → (at ≡ q) × (n ≡ left_over) × (at < length bs)
    none h = other (told refused (first (clear_faults k ds os)) (sym e ∙ none_left bs k ds os at h))

module _ (bs : List ℕ) (n q : ℕ) where
  -- a file that does not begin with the tag ends inside it, or has another byte there
  tag_stops : begins tag bs ≡ false → tag_fault bs ≡ n → q ≡ 0 → FormFault bs n q
  unfolding tag_fault
  tag_stops t e z = go (begins bs tag) refl e
    where
      go : (b : Bool) → begins bs tag ≡ b → cond b cut_off wrong_tag ≡ n → FormFault bs n q
      go true s f =
          let a = begins_agree bs tag s in
          cut_tag (sym f) z (
            ⊎_elim (λ h. h) (λ h. clash (agree_begins tag bs h (λ i l. sym (a.1 i (omega arith)))) t) (lt_or_ge (length bs) (length tag)),
            λ i l. sym (a.1 i l),
          )
      go false s f = tag_wrong (sym f) z (neither_begins tag bs t s)

  -- the rows, and what is behind them
  rest_stops : begins tag bs ≡ true → form_number n ≡ true → (h : Head) (from : ℕ) → header bs (length tag) ≡ got h from →
      rest bs h from ≡ refused n q → FormFault bs n q
  rest_stops t f h from g e =
      refused_in (rows bs h.link.period h.rows [] [] from) _ n q e
      (λ s. let w = stops_at_a_row bs h.link.period h.rows [] [] from n q s in
      let here : RowAt bs h w.row_at w.place = record { from = from; above = w.above; headed = g; rowed = w.rowed } in
      let x = row_stops bs n h w.row_at w.place q w.low here f w.stops in
      bad_number t x.0 x.1)
      (λ r end s c. let x = closing_stops bs h.link r.delays r.offsets end n q f c in
      let here : RowAt bs h h.rows end = record { from = from; above = r; headed = g; rowed = s } in
      bytes_left_over x.1 t h (rw (← x.0) here) (rw (← x.0) x.2))

  pub only_form_faults : form_number n ≡ true → meaning bs ≡ refused n q → FormFault bs n q
  unfolding meaning body
  only_form_faults f e = go (begins tag bs) refl e
    where
      go : (b : Bool) → begins tag bs ≡ b → cond b (body bs (length tag)) (refused (tag_fault bs) 0) ≡ refused n q → FormFault bs n q
      go true t h =
          refused_in (header bs (length tag)) _ n q h
          (λ s. let x = header_stops bs n q f s in bad_number t x.0 x.1)
          (rest_stops t f)
      go false t h = let number : tag_fault bs ≡ n = cc in let place : 0 ≡ q = cc in tag_stops t number (sym place)

  -- and back: a fault of form is the answer
  number_refused : (at lo hi fault : ℕ) → NumberFault (drop at bs) n → number bs at lo hi fault ≡ stopped n at
  number_refused at lo hi fault x =
      let y = number_faulty (drop at bs) n x in
      rw y.refusal (sym (number_form bs at lo hi fault y.said y.reads))

  header_refused : header bs (length tag) ≡ stopped n q → body bs (length tag) ≡ refused n q
  unfolding body
  header_refused e = rw e

  row_refused : (h : Head) (i at : ℕ) → i < h.rows → RowAt bs h i at → row bs h.link.period at ≡ stopped n q →
      body bs (length tag) ≡ refused n q
  unfolding body
  row_refused h i at l w e =
      rw (w.headed, rows_stop bs h.link.period i h.rows [] [] w.from w.above at n q l w.rowed e)

  body_refused : NumberAt bs q → NumberFault (drop q bs) n → body bs (length tag) ≡ refused n q
  unfolding header row
  body_refused (period e) x = header_refused (rw (e, rw e at (number_refused q 1 max_period bad_period x)))
  body_refused (size p g) x = header_refused (rw (g, number_refused q 1 p bad_size x))
  body_refused (row_count p t next g₁ g₂) x = header_refused (rw (g₁, g₂, number_refused q 1 max_rows bad_rows x))
  body_refused (delay h i l w) x = row_refused h i q l w (rw (number_refused q 0 max_delay bad_delay x))
  body_refused (offset h i d next l w g) x =
      row_refused h i next l w (rw (g, number_refused q 0 (h.link.period - 1) bad_offset x))

  pub form_fault_refused : FormFault bs n q → meaning bs ≡ refused n q
  unfolding meaning body tag_fault
  form_fault_refused (tag_wrong e z d) =
      let one = is_false (begins tag bs) (λ t. d.3 ((begins_agree tag bs t).1 d.0 d.2)) in
      let other = is_false (begins bs tag) (λ t. d.3 (sym ((begins_agree bs tag t).1 d.0 d.1))) in
      rw (one, other, e, z)
  form_fault_refused (cut_tag e z c) =
      let no_tag = is_false (begins tag bs) (λ t. omega (arith, (begins_agree tag bs t).0, c.0)) in
      let front = agree_begins bs tag (omega (arith, c.0)) (λ i l. sym (c.1 i l)) in
      rw (no_tag, front, e, z)
  form_fault_refused (bad_number t at x) = rw t (body_refused at x)
  form_fault_refused (bytes_left_over e t h w l) =
      let above = w.above in
      rw (t, w.headed, w.rowed, some_left bs h.link above.delays above.offsets q l, e)

  -- its number is one of the five
  pub form_number_lem : FormFault bs n q → form_number n ≡ true
  unfolding form_number
  form_number_lem (tag_wrong e z d) = rw e
  form_number_lem (cut_tag e z c) = rw e
  form_number_lem (bad_number t at (cut e h b)) = rw e
  form_number_lem (bad_number t at (too_long e h b)) = rw e
  form_number_lem (bad_number t at (needless e m low h l b z)) = rw e
  form_number_lem (bytes_left_over e t h w l) = rw e

-- 16 is the tag's alone
pub only_the_tag : (bs : List ℕ) (q : ℕ) → FormFault bs wrong_tag q → (q ≡ 0) × Differ bs tag
only_the_tag bs q (tag_wrong e z d) = (z, d)
only_the_tag bs q (cut_tag e z c) = absurd (omega (arith, e))
only_the_tag bs q (bad_number t at (cut e h b)) = absurd (omega (arith, e))
only_the_tag bs q (bad_number t at (too_long e h b)) = absurd (omega (arith, e))
only_the_tag bs q (bad_number t at (needless e m low h l b z)) = absurd (omega (arith, e))
only_the_tag bs q (bytes_left_over e t h w l) = absurd (omega (arith, e))

-- a reader that refuses with such a number does so by what the file means, not for its lists
pub refused_means : (bs old_d old_o ds os : List ℕ) (n q : ℕ) → form_number n ≡ true
    → gives (refuses_read n q) (lists ds os) ≡ read_gives bs old_d old_o → meaning bs ≡ refused n q
unfolding read_gives delivered form_number
refused_means bs old_d old_o ds os n q f e = go (meaning bs) e
  where
    pick : (k : Link) (xs ys : List ℕ) (b : Bool) →
        gives (refuses_read n q) (lists ds os) ≡ cond b (refuses bad_length 0 old_d old_o) (delivers k xs ys old_d old_o) →
        plan k xs ys ≡ refused n q
    pick k xs ys true h = let number : n ≡ bad_length = ap (λ (g : ReadGives). g.says.number) h in clash (rw number at f) refl
    pick k xs ys false h = never (cc (ap (λ (g : ReadGives). g.says.verdict) h))

    go : (m : Meaning) → gives (refuses_read n q) (lists ds os) ≡ delivered m old_d old_o → m ≡ refused n q
    go (plan k xs ys) h = pick k xs ys (ltb (length old_d) (length xs) || ltb (length old_o) (length ys)) h
    go (refused a b) h =
        let number : n ≡ a = ap (λ (g : ReadGives). g.says.number) h in
        let place : q ≡ b = ap (λ (g : ReadGives). g.says.place) h in
        rw (number, place)
