-- What the answers mean: each is the one that its text gets alone.
use Rattle.std.specs.Prelude.{◌≡◌, List, [], ◌∷◌, ◌++◌, ℕ, ◌*◌, ◌≤◌, ◌<◌, length, get_or, take, drop, Result, Ok}
use Rattle.ground.specs.Lent.{on_front, block}
use Rattle.ground.specs.Protocol.{gives}
use Rattle.ground.specs.declared.Fault.{Fault}
use Rattle.link.specs.Limits.{max_rows}
use Rattle.link.specs.declared.Link.{Link}
use Rattle.text.specs.Answer.{said as read_said, reading}
use Rattle.search.specs.Answer.{said as searched_said, Answers, given}
use Rattle.search.specs.declared.Answer.{Answer}
use Rattle.joined.specs.Limits.{max_texts, max_joined, answer_size}
use Rattle.joined.specs.declared.Stopped.{Stopped}
use Rattle.joined.specs.Answer.{said, Lists, answer_as}

-- "texts joined end to end"
unfoldable pub joined_of : List (List ℕ) → List ℕ
joined_of [] = []
joined_of (y ∷ ys) = y ++ joined_of ys

-- `read_table` answers a table for the text y, with some list lent
pub record Accepted (y : List ℕ) : Type 0 where
  pub link : Link
  pub rows : ℕ
  pub old : List ℕ
  pub new : List ℕ
  pub read : gives (read_said (Ok (record { link = link; rows = rows }))) new ≡ reading y old

abbrev pub AllAccepted : List (List ℕ) → Type 0
AllAccepted ts = (t : ℕ) → t < length ts → Accepted (get_or ts t [])

-- the text y alone: `read_table` reads n rows of it, and `exact` at this budget answers a and leaves `plan`, whatever lists are lent
pub record Alone (y : List ℕ) (budget n : ℕ) (a : Result Answer Fault) (plan : List ℕ) : Type 0 where
  pub link : Link
  pub old : List ℕ
  pub new : List ℕ
  pub read : gives (read_said (Ok (record { link = link; rows = n }))) new ≡ reading y old
  pub lent : List ℕ
  pub room : n ≤ length lent
  pub answer : Answers link (take n new) budget lent a plan

-- the lists `new`, which were `old`, have this answer in text t's places: four numbers; the plan's offsets, and what was there behind them
pub record Holds (old new : Lists) (t n : ℕ) (a : Result Answer Fault) (plan : List ℕ) : Type 0 where
  pub numbers : block answer_size t new.answers ≡ answer_as (searched_said a) n
  pub offsets : block max_rows t new.offsets ≡ on_front (given a n plan) (block max_rows t old.offsets)

-- each of the first texts has the answer that it gets alone in its places
abbrev pub AsAlone : List (List ℕ) → ℕ → Lists → Lists → Type 0
AsAlone ts budget old new =
    (t : ℕ) → t < length ts → (n : ℕ) (a : Result Answer Fault) (plan : List ℕ) → Alone (get_or ts t []) budget n a plan
    → Holds old new t n a plan

-- the places behind those of the first t texts are as they were
pub record KeptFrom (t : ℕ) (old new : Lists) : Type 0 where
  pub answers : drop (answer_size * t) new.answers ≡ drop (answer_size * t) old.answers
  pub offsets : drop (max_rows * t) new.offsets ≡ drop (max_rows * t) old.offsets

-- an input and lists that get neither 23 nor 11
pub record Fits (x : List ℕ) (l : Lists) : Type 0 where
  pub short : length x ≤ max_joined
  pub answers : answer_size * max_texts ≤ length l.answers
  pub plans : max_rows * max_texts ≤ length l.offsets

-- what the run r answered: accepted texts in front of the input, each with the answer that it gets alone; the rest of both lists is kept
pub record AnswersTexts (x : List ℕ) (budget : ℕ) (old : Lists) (r : Result ℕ Stopped) (new : Lists) : Type 0 where
  pub texts : List (List ℕ)
  pub behind : List ℕ
  pub input : x ≡ joined_of texts ++ behind
  pub count : (said r).texts ≡ length texts
  pub all : AllAccepted texts
  pub alone : AsAlone texts budget old new
  pub kept : KeptFrom (length texts) old new
