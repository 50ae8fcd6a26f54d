-- `page_write::append_refusal` meets its contract: the length is the first check, and the record's checks stand after it.
use borrow.Author.Tests.{eq-eqb, ne_eqb}
use Rattle.page_write.proofs.append_refusal.Goals as goal

pub returns-then-image-ne-SECTOR_SIZE : goal.returns-then-image-ne-SECTOR_SIZE
returns-then-image-ne-SECTOR_SIZE c =
    rw (ne_eqb _ _ c.if-image-ne-SECTOR_SIZE.true)

pub returns : goal.returns
returns c =
    rw (eq-eqb _ _ c.if-image-ne-SECTOR_SIZE.false) c.active_refusal.ensures
