-- `opening_marks::program_changes` meets its contract: the units looked at so far are done under the budget, and counted.
use Rattle.std.proofs.Common.{◌≡◌, refl, ◌∙◌, ◌+◌, length, take, arith, rules, add-one, zero-add}
use lib.Seq.{take-nil}
use Rattle.flash.specs.Flash.{Unit4, run}
use Rattle.flash.proofs.Laws.{run_both}
use Rattle.opening_marks.specs.Marks.{changed_unit, changed_units}
use Rattle.opening_marks.proofs.Passes.{changed_more, length_changed_le}
use Rattle.opening_marks.proofs.program_changes.Goals as goal
use Rattle.opening_marks.proofs.program_changes.Goals.{After-program_unit-done}

-- one unit more
more : (c : After-program_unit-done)
    → (c.loop-unit.done + c.program_unit-done.result ≡ length (changed_units 0 (c.loop-unit.unit + 1) c.args.old c.args.new))
    × (c.program_unit-done.new.image ≡ run (take c.args.budget (changed_units 0 (c.loop-unit.unit + 1) c.args.old c.args.new)) c.args.image.now)
more c =
    let args = c.args in
    let unit = c.loop-unit.unit in
    let programmed = c.program_unit-done.ensures in
    rw (add-one unit, changed_more 0 unit args.old args.new, zero-add unit)
    (run_both args.budget (changed_units 0 unit args.old args.new) (changed_unit unit args.old args.new) args.image.now
    c.loop-unit.invariant.2 programmed.total c.saturating_sub.ensures c.loop-unit.invariant.3 programmed.image)

pub loop-unit-init : goal.loop-unit-init
unfolding changed_units run
loop-unit-init c = (search rules, refl, refl, rw (take-nil {A = Unit4} c.args.budget))

pub overflow_add-done : goal.overflow_add-done
overflow_add-done c =
    let counted = (more (goal.at.overflow_add-done c).After-program_unit-done).0 in
    omega (arith, counted, length_changed_le 0 (c.loop-unit.unit + 1) c.args.old c.args.new)

pub loop-unit-preserved : goal.loop-unit-preserved
loop-unit-preserved c =
    let one = more (goal.at.loop-unit-preserved c).After-program_unit-done in
    (omega arith, c.program_unit-done.auto.image ∙ c.loop-unit.invariant.1, one.0, one.1)

pub returns : goal.returns
returns c =
    let end : c.loop-unit.unit ≡ 8 = omega arith in
    record {
      total = rw end at c.loop-unit.invariant.2;
      image = rw end at c.loop-unit.invariant.3;
    }
