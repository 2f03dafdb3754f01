-- Delays within the period stand for the delays. Assumes nothing.
use mathlib.Core.Path.{◌≡◌, refl, ap, ◌∙◌, fun_ext}
use mathlib.Core.Logic.{⊎_elim}
use mathlib.Core.Bool.{Bool, not}
use mathlib.Core.List.{List}
use Prim.Native.Nat.{ℕ, ◌%◌, ◌<◌, ◌≤◌}
use native.Mathlib.Omega.{arith}
use native.Mathlib.Nat.{add-mod-mod, mod-mod}
use lib.ListN.{length, get_or, set, replicate, get_or-replicate, length-replicate, get_or-eq_default}
use Rattle.link.specs.Limits.{max_rows}
use Rattle.ground.specs.Least.{some}
use Rattle.link.specs.Rows.{Crossing, one, two, second, start, start_at, hits, either}
use Rattle.link.specs.Slots.{after}
use Rattle.ground.proofs.Bools.{lt_or_ge}
use Rattle.search.specs.Steps.{Step, Rules, rules, offset_of, puts, in_the_way, good, put, steps}

-- ts has the first i delays within the period, and 0 behind them
pub record Reduced (p : ℕ) (ds : List ℕ) (i : ℕ) (ts : List ℕ) : Type 0 where
  pub long : length ts ≡ max_rows
  pub front : (j : ℕ) → j < i → get_or ts j 0 ≡ get_or ds j 0 % p
  pub rest : (j : ℕ) → i ≤ j → get_or ts j 0 ≡ 0

pub reduced_none : (p : ℕ) (ds : List ℕ) → Reduced p ds 0 (replicate max_rows 0)
reduced_none p ds =
    record {
      long = length-replicate {A = ℕ} max_rows 0;
      front = λ j l. absurd (omega arith);
      rest = λ j l. ⊎_elim (λ a. get_or-replicate max_rows j 0 0 a)
          (λ a. get_or-eq_default (replicate max_rows 0) 0 {n = j} (rw (length-replicate {A = ℕ} max_rows 0) a)) (lt_or_ge j max_rows);
    }

-- A table with its delays within the period has the same steps, the same good ones, and puts rows where the table puts them.
module _ (p l : ℕ) (ds ts : List ℕ) (same : (i : ℕ) → get_or ts i 0 ≡ get_or ds i 0 % p) where
  start_same : (c : Crossing) (j a : ℕ) → start_at p c (get_or ts j 0) a ≡ start_at p c (get_or ds j 0) a
  unfolding second
  start_same one j a = refl
  start_same two j a = rw (same j, add-mod-mod)

  offset_same : (c : Crossing) (j x : ℕ) → offset_of p c (get_or ts j 0) x ≡ offset_of p c (get_or ds j 0) x
  unfolding offset_of
  offset_same one j x = refl
  offset_same two j x = rw (same j, mod-mod)

  puts_same : (s : List ℕ) (k : Step) → puts p l ts s k ≡ puts p l ds s k
  unfolding puts start
  puts_same s k =
      ap (λ (x : ℕ). offset_of p k.crossing (get_or ts k.row 0) (after p l x))
      (start_same k.crossing k.beside (get_or s k.beside 0))
      ∙ offset_same k.crossing k.row _

  hits_same : (s : List ℕ) (j a : ℕ) (c : Crossing) (i : ℕ) → hits p l ts s (get_or ts j 0) a c i ≡ hits p l ds s (get_or ds j 0) a c i
  unfolding hits start
  hits_same s j a c i = rw (start_same c i (get_or s i 0), start_same c j a)

  way_same : (s : List ℕ) (j a i : ℕ) → in_the_way p l ts s (get_or ts j 0) a i ≡ in_the_way p l ds s (get_or ds j 0) a i
  unfolding in_the_way either
  way_same s j a i = rw (hits_same s j a one i, hits_same s j a two i)

  good_same : (n : ℕ) (s : List ℕ) (k : Step) → good p l ts n s k ≡ good p l ds n s k
  unfolding good
  good_same n s k =
      ap (λ (x : ℕ). not (some (in_the_way p l ts s (get_or ts k.row 0) x) n)) (puts_same s k)
      ∙ ap (λ (q : ℕ → Bool). not (some q n)) (fun_ext (way_same s k.row (puts p l ds s k)))

  put_same : (s : List ℕ) (k : Step) → put p l ts s k ≡ put p l ds s k
  unfolding put
  put_same s k = ap (set s k.row) (puts_same s k)

  pub rules_same : (n : ℕ) → rules p l ts n ≡ rules p l ds n
  rules_same n =
      ap (λ (g : List ℕ → Step → Bool). by g (put p l ts)) (fun_ext (λ s. fun_ext (good_same n s)))
      ∙ ap (by (good p l ds n)) (fun_ext (λ s. fun_ext (put_same s)))
    where
      by : (List ℕ → Step → Bool) → (List ℕ → Step → List ℕ) → Rules
      by g q = record { steps = steps p n; good = g; put = q }
