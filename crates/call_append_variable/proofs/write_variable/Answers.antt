-- `write_variable` meets its contract: header entry and data, then the seal with what they leave of the budget.
use mathlib.Core.List.{◌++◌}
use Prim.Native.Nat.{◌+◌}
use native.Mathlib.Omega.{arith}
use lib.ListN.{length-append}
use Rattle.flash.specs.Flash.{units}
use Rattle.flash.proofs.Laws.{length-units_le, run_both}
use Rattle.page.specs.Writing.{full_units, item_plan}
use Rattle.page.proofs.Plans.{length_seal_le}
use Rattle.sector.specs.Layout.{entry_address}
use Rattle.sector.specs.Map.{map_units}
use Rattle.call_append.specs.Append.{variable_plan}
use borrow.Author.Rules.{rules}
use Rattle.call_append_variable.proofs.write_variable.Goals as goal

pub overflow_add-result : goal.overflow_add-result
overflow_add-result c =
    let z = c.args in
    let at = c.get_next_free_entry-start.result in
    omega (
      arith,
      c.write_header_and_data-bytes.ensures.total,
      length-append (units (entry_address at) c.header_of-header.result) (units (entry_address (at + 1)) z.payload.now),
      length-units_le (entry_address at) c.header_of-header.result,
      length-units_le (entry_address (at + 1)) z.payload.now,
      c.seal-sealed.ensures.total,
      length_seal_le at c.span_for-span.result z.map (search rules),
    )

pub returns : goal.returns
unfolding variable_plan item_plan
returns c =
    let z = c.args in
    let at = c.get_next_free_entry-start.result in
    rw (← c.requires.2, ← c.header_of-header.ensures, ← c.span_for-span.ensures, ← c.get_next_free_entry-start.ensures)
    (let both = run_both z.budget
    (units (entry_address at) c.header_of-header.result ++ units (entry_address (at + 1)) z.payload.now)
    (map_units at c.span_for-span.result z.map ++ full_units (at + c.span_for-span.result))
    z.image.now
    c.write_header_and_data-bytes.ensures.total
    c.seal-sealed.ensures.total
    c.saturating_sub.ensures
    c.write_header_and_data-bytes.ensures.image
    c.seal-sealed.ensures.image in
    record { total = both.0; image = both.1 })
