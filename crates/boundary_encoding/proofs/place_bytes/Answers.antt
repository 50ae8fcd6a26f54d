-- `place_bytes` meets its contract: the four bytes of the hash, then the index.
use Rattle.boundary_encoding.proofs.place_bytes.Goals as goal

pub returns : goal.returns
returns c =
    rw c.little_endian-hash.ensures
