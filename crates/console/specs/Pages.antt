-- What a page gets: a buffer that is lent, and the place behind the bytes that are put into it.
use Rattle.std.specs.Prelude.{◌≡◌, List, ℕ, ◌+◌, ◌≤◌, length}
use Rattle.ground.specs.Lent.{Adds}
use Rattle.console.specs.declared.page.Page.{Page}

-- there is room for n bytes more
abbrev pub Room : Page → ℕ → Type 0
Room page n = page.end + n ≤ length page.out.now

-- the bytes are put behind those that are there, and the buffer is still the one that was lent
pub record Puts (old : Page) (bytes : List ℕ) (new : Page) : Type 0 where
  pub same : new.out.ghost_name ≡ old.out.ghost_name
  pub fits : Room old (length bytes)
  pub adds : Adds old.out.now old.end bytes new.end new.out.now
