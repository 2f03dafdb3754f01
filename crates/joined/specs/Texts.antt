-- The texts of the joined input x: where each begins, and what is wrong with it. Texts are numbered from 0.
use Rattle.std.specs.Prelude.{Bool, true, false, cond, ◌&&◌, ◌||◌, List, ℕ, zero, suc, ◌+◌, ltb, leb, eqb, length, take, drop}
use Rattle.ground.specs.Judging.{Judged, Fine, Fault, first}
use Rattle.ground.specs.Least.{least}
use Rattle.ground.specs.Protocol.{unless}
use Rattle.text.specs.Limits.{max_text, long_text, cut_line}
use Rattle.text.specs.Faults.{text_faults, end_of}
use Rattle.joined.specs.Limits.{max_texts, too_many_texts}

-- the bytes from which a text that begins at the byte `at` is read: "The 1,024-byte limit holds for each text by itself"
abbrev pub text_from : List ℕ → ℕ → List ℕ
text_from x at = take max_text (drop at x)

-- the byte at which text t begins: behind the last line of the text before it
unfoldable pub begin_of : List ℕ → ℕ → ℕ
begin_of x zero = 0
begin_of x (suc t) = begin_of x t + end_of (text_from x (begin_of x t))

-- "a line not ended within the text's first 1,024 bytes gives 1 if the input goes on past them, and 3 if it doesn't"
abbrev pub split_cut : {A : Type 0} → (ℕ → ℕ → A) → Bool → ℕ → ℕ → A
split_cut fault goes_on n p = cond (goes_on && eqb n cut_line) (fault long_text 0) (fault n p)

-- the first fault of the text that begins at `at`, with its place in that text
unfoldable pub fault_from : List ℕ → ℕ → Judged
fault_from x at = unless (split_cut Fault (ltb max_text (length (drop at x)))) (first (text_faults (text_from x at))) Fine

abbrev pub is_fault : Judged → Bool
is_fault Fine = false
is_fault (Fault n p) = true

-- text t gets no answer: no byte is left for it, or it has a fault
unfoldable pub is_left : List ℕ → ℕ → Bool
is_left x t = leb (length x) (begin_of x t) || is_fault (fault_from x (begin_of x t))

-- how many texts are answered: those before the first that is left, and at most 32
unfoldable pub answered : List ℕ → ℕ
answered x = least (is_left x) max_texts

-- why the run stops there: nothing is left; "24 where a thirty-third text begins, with that byte of the input"; "At the first text fault
-- stop, and give that text's index with its own place"
unfoldable pub stop_at : List ℕ → ℕ → Judged
stop_at x t =
    cond (leb (length x) (begin_of x t)) Fine
    (cond (leb max_texts t) (Fault too_many_texts (begin_of x t)) (fault_from x (begin_of x t)))
