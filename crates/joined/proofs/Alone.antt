-- Each of the texts that are joined gets the answer that it gets alone. Assumes nothing.
use mathlib.Core.Path.{◌≡◌, sym, ap, ◌∙◌}
use mathlib.Core.Bool.{false}
use mathlib.Core.List.{List, [], ◌++◌}
use Prim.Native.Nat.{ℕ, ◌≤◌, ◌<◌}
use native.Mathlib.Omega.{arith}
use lib.ListN.{length, get_or, take}
use Rattle.std.specs.Prelude.{Result}
use Rattle.ground.specs.Lent.{on_front, block}
use Rattle.ground.specs.declared.Fault.{Fault}
use Rattle.link.specs.Limits.{max_rows}
use Rattle.link.specs.declared.Link.{Link}
use Rattle.text.specs.Faults.{rows_of}
use Rattle.text.specs.Answer.{table_link, delays_of}
use Rattle.text.proofs.Promises.{accepted_is_the_text}
use Rattle.search.specs.Answer.{Said as Searched, said as searched_said, Answers, given}
use Rattle.search.specs.declared.Answer.{Answer}
use Rattle.search.proofs.Promises.{any_list_same}
use Rattle.search.proofs.Verdicts.{some_answer}
use Rattle.joined.specs.Limits.{max_texts}
use Rattle.joined.specs.Texts.{is_left}
use Rattle.joined.specs.Answer.{Lists, answer_as, lists_to}
use Rattle.joined.specs.Meaning.{joined_of, AllAccepted, Alone, Holds, Fits}
use Rattle.joined.proofs.Filled.{text, lent, outcome_of, answer_of, answered_so, numbers_at, offsets_at, lent_room}
use Rattle.joined.proofs.Joining.{read_as}

-- one table under two names
same_table : (k k' : Link) (ds ds' : List ℕ) (budget : ℕ) (old : List ℕ) (r : Result Answer Fault) (new : List ℕ) → k ≡ k' → ds ≡ ds'
    → Answers k ds budget old r new → Answers k' ds' budget old r new
same_table k k' ds ds' budget old r new e f a = a ∙ rw (e, f)

module _ (ts : List (List ℕ)) (z : List ℕ) (all : AllAccepted ts) (budget : ℕ) (l : Lists) (f : Fits (joined_of ts ++ z) l) where
  abbrev x : List ℕ
  x = joined_of ts ++ z

  -- once the first m texts are answered, text t of them holds its answer
  pub holds : (m : ℕ) → m ≤ max_texts → ((t : ℕ) → t < m → is_left x t ≡ false) → (t : ℕ) → t < m → t < length ts
      → (n : ℕ) (a : Result Answer Fault) (plan : List ℕ) → Alone (get_or ts t []) budget n a plan
      → Holds l (lists_to x budget m l) t n a plan
  holds m few going t h within n a plan w =
      let y = text x budget l t in
      let c = accepted_is_the_text (get_or ts t []) w.old (record { link = w.link; rows = n }) w.new w.read in
      let r = read_as ts z all t within w.link (take n w.new) c.good c.text in
      let so = same_table _ w.link _ (take n w.new) budget (lent x budget l t) (answer_of x budget l t)
      (outcome_of x budget l t).leaves r.link (ap (delays_of y) r.rows ∙ r.delays) (answered_so x budget l t) in
      let e = any_list_same w.link (take n w.new) budget w.lent (lent x budget l t) a (answer_of x budget l t) plan
      (outcome_of x budget l t).leaves (omega (arith, c.as_many, w.room))
      (omega (arith, lent_room x budget l m few going f.answers f.plans t h, c.good.rows_high)) w.answer so in
      let said = sym (some_answer (table_link y) (delays_of y (rows_of y)) budget (lent x budget l t)).1 ∙ ap searched_said e.0 in
      record {
        numbers = numbers_at x budget l m few going f.answers f.plans t h
            ∙ ap (λ (s : Searched). answer_as s (rows_of y)) said ∙ ap (answer_as (searched_said a)) (r.rows ∙ c.as_many);
        offsets = offsets_at x budget l m few going f.answers f.plans t h
            ∙ ap (λ (os : List ℕ). on_front os (block max_rows t l.offsets))
            (ap (λ (i : ℕ). given (answer_of x budget l t) i (outcome_of x budget l t).leaves) r.rows ∙ e.1
            ∙ ap (λ (i : ℕ). given a i plan) c.as_many);
      }
