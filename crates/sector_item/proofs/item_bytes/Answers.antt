-- `sector_item::item_bytes` meets its contract: `item_crc` leaves out the four bytes that the CRC then takes.
use mathlib.Core.List.{append-nil}
use native.Mathlib.Omega.{arith}
use lib.ListN.{replicate}
use lib.Seq.{take_at, drop_at}
use Rattle.sector.specs.Item.{item_bytes, item_crc}
use Rattle.sector_item.proofs.item_bytes.Goals as goal

pub returns : goal.returns
unfolding item_bytes item_crc
returns c =
    rw (
      c.copy_from_slice-4.ensures.after,
      c.little_endian.ensures,
      c.item_crc-crc.ensures,
      c.copy_from_slice-3.ensures.after,
      c.copy_from_slice-2.ensures.after,
      c.copy_from_slice.ensures.after,
      take_at c.args.key (replicate 8 0) 16 (omega arith),
      drop_at c.args.key (replicate 8 0) 16 (omega arith),
      append-nil c.args.bytes,
    )
