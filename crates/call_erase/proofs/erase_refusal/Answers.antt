-- `call_erase::erase_refusal` meets its contract: the length decides, then the record, its state, and the entries.
use mathlib.Core.Path.{◌≡◌, sym, ◌∙◌}
use mathlib.Core.Bool.{true}
use borrow.Author.Tests.{eq-eqb, ne_eqb}
use Rattle.page.specs.Record.{fit_to_use}
use Rattle.call_erase.proofs.erase_refusal.Goals as goal

pub returns-then-image-ne-SECTOR_SIZE : goal.returns-then-image-ne-SECTOR_SIZE
returns-then-image-ne-SECTOR_SIZE c =
    rw (ne_eqb _ _ c.if-image-ne-SECTOR_SIZE.true)

pub returns-then-not-fit_to_use : goal.returns-then-not-fit_to_use
returns-then-not-fit_to_use c =
    rw (eq-eqb _ _ c.if-image-ne-SECTOR_SIZE.false, sym c.fit_to_use.ensures ∙ c.if-not-fit_to_use.true)

pub returns-then-not-is_in_use : goal.returns-then-not-is_in_use
returns-then-not-is_in_use c =
    let fit : fit_to_use c.args.page.now ≡ true = sym c.fit_to_use.ensures ∙ c.if-not-fit_to_use.false in
    rw (
      eq-eqb _ _ c.if-image-ne-SECTOR_SIZE.false,
      fit,
      sym c.is_in_use.ensures ∙ c.if-not-is_in_use.true,
    )

pub returns : goal.returns
returns c =
    let fit : fit_to_use c.args.page.now ≡ true = sym c.fit_to_use.ensures ∙ c.if-not-fit_to_use.false in
    rw (
      eq-eqb _ _ c.if-image-ne-SECTOR_SIZE.false,
      fit,
      sym c.is_in_use.ensures ∙ c.if-not-is_in_use.false,
    )
    c.range_refusal.ensures
