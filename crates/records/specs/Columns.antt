-- The two lists that a list of records holds, as the checker takes them.
use Rattle.std.specs.Prelude.{List, map, ℕ}
use Rattle.records.specs.declared.Record.{Record}

-- "a lent list of records, a delay and an offset in each"
unfoldable pub delays_of : List Record → List ℕ
delays_of rs = map (λ (r : Record). r.delay) rs

unfoldable pub offsets_of : List Record → List ℕ
offsets_of rs = map (λ (r : Record). r.offset) rs
