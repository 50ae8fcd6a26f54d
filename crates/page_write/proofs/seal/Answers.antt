-- `page_write::seal` meets its contract: marks, then the state word with what they leave of the budget, or no state word.
use mathlib.Core.List.{append-nil}
use native.Mathlib.Omega.{arith}
use borrow.Author.Tests.{eq-eqb, ne_eqb}
use Rattle.flash.specs.Flash.{units}
use Rattle.sector.specs.declared.PageState.TheVariants.{Full}
use Rattle.sector.specs.Header.{state_bytes}
use Rattle.sector.specs.Map.{map_units}
use Rattle.flash.proofs.Laws.{run_both}
use Rattle.page.proofs.Plans.{length-map_units_le, length-full_units}
use Rattle.page_write.proofs.seal.Goals as goal

pub returns-then-start-span-ne-ENTRIES_PER_PAGE : goal.returns-then-start-span-ne-ENTRIES_PER_PAGE
returns-then-start-span-ne-ENTRIES_PER_PAGE c =
    rw (ne_eqb _ 126 c.if-start-span-ne-ENTRIES_PER_PAGE.true, append-nil)
    (let both = c.write_marks-marks.ensures in
    record { total = both.total; image = both.image })

pub overflow_add-result : goal.overflow_add-result
overflow_add-result c =
    omega (
      arith,
      c.write_marks-marks.ensures.total,
      length-map_units_le c.args.start c.args.span c.args.map c.requires.2,
      c.write_full-full.ensures.total,
      length-full_units 126,
    )

pub returns : goal.returns
returns c =
    let z = c.args in
    rw (eq-eqb _ 126 c.if-start-span-ne-ENTRIES_PER_PAGE.false)
    (let both = run_both z.budget (map_units z.start z.span z.map) (units 0 (state_bytes Full)) z.image.now
    c.write_marks-marks.ensures.total
    c.write_full-full.ensures.total
    c.saturating_sub.ensures
    c.write_marks-marks.ensures.image
    c.write_full-full.ensures.image in
    record { total = both.0; image = both.1 })
