-- `call_purge::purge_entries` meets its contract: where the index is on the page, the entries of the held span are zeroed.
use mathlib.Core.Path.{◌≡◌, refl}
use borrow.Author.Tests.{eq-eqb, ne_eqb, lt-ltb, le-ltb}
use Rattle.flash.specs.Flash.{run}
use Rattle.call_purge.specs.Purge.{held_span, purge, purge_plan, purge_image}
use Rattle.call_purge.proofs.purge_entries.Goals as goal

pub returns-then-image-ne-SECTOR_SIZE : goal.returns-then-image-ne-SECTOR_SIZE
unfolding purge purge_image
returns-then-image-ne-SECTOR_SIZE c =
    rw (ne_eqb _ _ c.if-image-ne-SECTOR_SIZE.true) record {
      answer = refl;
      image = refl;
    }

pub returns-then-index-ge-ENTRIES_PER_PAGE : goal.returns-then-index-ge-ENTRIES_PER_PAGE
unfolding purge purge_image purge_plan run
returns-then-index-ge-ENTRIES_PER_PAGE c =
    rw (eq-eqb _ _ c.if-image-ne-SECTOR_SIZE.false, le-ltb _ 126 c.if-index-ge-ENTRIES_PER_PAGE.true) record {
      answer = refl;
      image = refl;
    }

pub returns : goal.returns
unfolding purge purge_image purge_plan
returns c =
    let held : c.clamp-held.result ≡ held_span c.args.index c.args.span = c.clamp-held.ensures in
    rw (eq-eqb _ _ c.if-image-ne-SECTOR_SIZE.false, lt-ltb _ 126 c.if-index-ge-ENTRIES_PER_PAGE.false, ← held) record {
      answer = refl;
      image = c.zero_entries.ensures;
    }
