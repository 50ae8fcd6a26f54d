-- `initialize_refusal` meets its contract: each `return` is the first check of `initialise_checks` that refuses, or none.
use mathlib.Core.Path.{◌≡◌, sym, ◌∙◌}
use mathlib.Core.Bool.{true}
use lib.Dec.{eqb}
use lib.ListN.{length}
use borrow.Author.Tests.{eq-eqb, ne_eqb}
use Rattle.sector.specs.Header.{is_uninitialized}
use Rattle.page.specs.Record.{fit_to_use}
use Rattle.call_page_state.proofs.initialize_refusal.Goals as goal

pub returns-then-image-ne-SECTOR_SIZE : goal.returns-then-image-ne-SECTOR_SIZE
returns-then-image-ne-SECTOR_SIZE c =
    rw (ne_eqb _ _ c.if-image-ne-SECTOR_SIZE.true)

pub returns-then-not-fit_to_use : goal.returns-then-not-fit_to_use
returns-then-not-fit_to_use c =
    let whole : eqb (length c.args.image.now) 4096 ≡ true = eq-eqb _ _ c.if-image-ne-SECTOR_SIZE.false in
    rw (whole, sym c.fit_to_use.ensures ∙ c.if-not-fit_to_use.true)

pub returns-then-not-is_uninitialized : goal.returns-then-not-is_uninitialized
returns-then-not-is_uninitialized c =
    let whole : eqb (length c.args.image.now) 4096 ≡ true = eq-eqb _ _ c.if-image-ne-SECTOR_SIZE.false in
    let fit : fit_to_use c.args.page.now ≡ true = sym c.fit_to_use.ensures ∙ c.if-not-fit_to_use.false in
    rw (whole, fit, sym c.is_uninitialized.ensures ∙ c.if-not-is_uninitialized.true)

pub returns-then-not-all_ones : goal.returns-then-not-all_ones
returns-then-not-all_ones c =
    let whole : eqb (length c.args.image.now) 4096 ≡ true = eq-eqb _ _ c.if-image-ne-SECTOR_SIZE.false in
    let fit : fit_to_use c.args.page.now ≡ true = sym c.fit_to_use.ensures ∙ c.if-not-fit_to_use.false in
    let blank : is_uninitialized c.args.page.now.state ≡ true = sym c.is_uninitialized.ensures ∙ c.if-not-is_uninitialized.false in
    rw (
      whole,
      fit,
      blank,
      sym c.all_ones.ensures ∙ c.if-not-all_ones.true,
    )

pub returns : goal.returns
returns c =
    let whole : eqb (length c.args.image.now) 4096 ≡ true = eq-eqb _ _ c.if-image-ne-SECTOR_SIZE.false in
    let fit : fit_to_use c.args.page.now ≡ true = sym c.fit_to_use.ensures ∙ c.if-not-fit_to_use.false in
    let blank : is_uninitialized c.args.page.now.state ≡ true = sym c.is_uninitialized.ensures ∙ c.if-not-is_uninitialized.false in
    rw (
      whole,
      fit,
      blank,
      sym c.all_ones.ensures ∙ c.if-not-all_ones.false,
    )
