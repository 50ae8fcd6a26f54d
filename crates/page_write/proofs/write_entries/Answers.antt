-- `page_write::write_entries` meets its contract: the bytes, then the seal with what they leave of the budget.
use mathlib.Core.List.{◌++◌}
use Prim.Native.Nat.{◌+◌}
use native.Mathlib.Omega.{arith}
use Rattle.flash.specs.Flash.{units}
use Rattle.flash.proofs.Laws.{length-units_le, run_both}
use Rattle.sector.specs.Map.{map_units}
use Rattle.page.specs.Writing.{full_units}
use Rattle.page.proofs.Plans.{length_seal_le}
use Rattle.page_write.proofs.write_entries.Goals as goal

pub overflow_add-result : goal.overflow_add-result
overflow_add-result c =
    let z = c.args in
    omega (
      arith,
      c.write_aligned-entries.ensures.total,
      length-units_le c.entry_address.result z.bytes.now,
      c.seal-sealed.ensures.total,
      length_seal_le z.start z.span z.map c.requires.3,
    )

pub returns : goal.returns
returns c =
    let z = c.args in
    rw (← c.entry_address.ensures)
    (let both = run_both z.budget
    (units c.entry_address.result z.bytes.now)
    (map_units z.start z.span z.map ++ full_units (z.start + z.span))
    z.image.now
    c.write_aligned-entries.ensures.total
    c.seal-sealed.ensures.total
    c.saturating_sub.ensures
    c.write_aligned-entries.ensures.image
    c.seal-sealed.ensures.image in
    record { total = both.0; image = both.1 })
