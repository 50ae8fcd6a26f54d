-- `head_bytes` meets its contract: the bytes of the four fields, one after the other.
use Rattle.boundary_encoding.proofs.head_bytes.Goals as goal

pub returns : goal.returns
returns c =
    rw (c.little_endian-sequence.ensures, c.little_endian-crc.ensures, c.state_byte-byte.ensures)
