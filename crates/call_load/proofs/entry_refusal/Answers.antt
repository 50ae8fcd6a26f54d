-- `call_load::entry_refusal` meets its contract: each `return` is the first of `entry_checks` that refuses, or none.
use native.Mathlib.Omega.{arith}
use borrow.Author.Tests.{eq-eqb, ne_eqb, lt-ltb, le-ltb}
use Rattle.call_load.proofs.entry_refusal.Goals as goal

pub returns-then-image-ne-SECTOR_SIZE : goal.returns-then-image-ne-SECTOR_SIZE
returns-then-image-ne-SECTOR_SIZE c =
    rw (ne_eqb _ _ c.if-image-ne-SECTOR_SIZE.true)

pub returns-then-index-ge-ENTRIES_PER_PAGE : goal.returns-then-index-ge-ENTRIES_PER_PAGE
returns-then-index-ge-ENTRIES_PER_PAGE c =
    rw (eq-eqb _ _ c.if-image-ne-SECTOR_SIZE.false, le-ltb c.args.index 126 (omega arith))

pub returns : goal.returns
returns c =
    rw (eq-eqb _ _ c.if-image-ne-SECTOR_SIZE.false, lt-ltb _ 126 c.if-index-ge-ENTRIES_PER_PAGE.false)
