-- What the array holds in front of the last place is what `without` says.
use Rattle.oneslot.proofs.Finding.{firsts_without, seconds_without}
use Rattle.oneslot.proofs.Ring.give_way.Goals as goal

pub returns : goal.returns
returns c =
    rw (c.copy_out.ensures, firsts_without _ _ _ _ c.requires.0, seconds_without _ _ _ _ c.requires.0) at c.make_room.ensures
