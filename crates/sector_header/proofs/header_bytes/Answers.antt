-- `sector_header::header_bytes` meets its contract: `header_crc` leaves out the four bytes that the CRC then takes.
use Rattle.sector.specs.Header.{header_crc, header_bytes}
use Rattle.sector_header.proofs.header_bytes.Goals as goal

pub returns : goal.returns
unfolding header_bytes header_crc
returns c =
    rw (
      c.copy_from_slice-3.ensures.after,
      c.little_endian-3.ensures,
      c.header_crc-crc.ensures,
      c.copy_from_slice-2.ensures.after,
      c.little_endian-2.ensures,
      c.copy_from_slice.ensures.after,
      c.little_endian.ensures,
    )
