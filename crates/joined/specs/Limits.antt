-- The limits of joined texts, and the refusal numbers that only they get, by name.
use Rattle.std.specs.Prelude.{ℕ}

-- "up to 32 texts joined end to end"
abbrev pub max_texts : ℕ
max_texts = 32

-- "joined input above 32,768 bytes"
abbrev pub max_joined : ℕ
max_joined = 32768

-- an answer is four numbers
abbrev pub answer_size : ℕ
answer_size = 4

-- "23, before any answer, for joined input above 32,768 bytes"
abbrev pub long_input : ℕ
long_input = 23

-- "24 where a thirty-third text begins"
abbrev pub too_many_texts : ℕ
too_many_texts = 24
