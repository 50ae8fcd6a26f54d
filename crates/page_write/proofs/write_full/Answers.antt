-- `page_write::write_full` meets its contract: it writes the state word's four bytes at 0.
use Rattle.page_write.proofs.write_full.Goals as goal

pub returns : goal.returns
returns c =
    record {
      total = rw c.little_endian-word.ensures at c.write_aligned.ensures.total;
      image = rw c.little_endian-word.ensures at c.write_aligned.ensures.image;
    }
