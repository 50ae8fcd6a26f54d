-- `place_at` meets its contract: the bytes from the offset on are those that are read.
use lib.Seq.{get_or-drop}
use Rattle.boundary_encoding.proofs.place_at.Goals as goal

pub returns : goal.returns
returns c =
    let z = c.args in
    rw (c.number_at.ensures, get_or-drop z.offset z.bytes.now 4 0)
