-- `write_header_and_data` meets its contract: the header entry, then the data with what it leaves of the budget.
use native.Mathlib.Omega.{arith}
use Rattle.flash.specs.Flash.{units}
use Rattle.flash.proofs.Laws.{length-units_le, run_both}
use Rattle.call_append_variable.proofs.write_header_and_data.Goals as goal

pub overflow_add-result : goal.overflow_add-result
overflow_add-result c =
    let z = c.args in
    omega (
      arith,
      c.write_aligned-entry.ensures.total,
      length-units_le c.entry_address.result z.header.now,
      c.write_aligned-data.ensures.total,
      length-units_le c.entry_address-2.result z.payload.now,
    )

pub returns : goal.returns
returns c =
    let z = c.args in
    rw (← c.entry_address.ensures, ← c.entry_address-2.ensures)
    (let both = run_both z.budget
    (units c.entry_address.result z.header.now)
    (units c.entry_address-2.result z.payload.now)
    z.image.now
    c.write_aligned-entry.ensures.total
    c.write_aligned-data.ensures.total
    c.saturating_sub-left.ensures
    c.write_aligned-entry.ensures.image
    c.write_aligned-data.ensures.image in
    record { total = both.0; image = both.1 })
