-- `opening_marks::program_changes` meets its contract: the units looked at so far are done under the budget, and counted.
use mathlib.Core.Path.{◌≡◌}
use Prim.Native.Nat.{◌≤◌}
use lib.ListN.{length, take}
use Rattle.flash.specs.Flash.{run}
use Rattle.opening_marks.specs.Marks.{changed_units}
use Rattle.opening_marks.proofs.program_changes.Given as goal

abbrev pub invariant-loop-unit : goal.invariant-loop-unit
invariant-loop-unit l =
    (l.unit ≤ 8) × (length l.image ≡ length l.initial.image) × (l.done ≡ length (changed_units 0 l.unit l.old l.new))
    × (l.image ≡ run (take l.budget (changed_units 0 l.unit l.old l.new)) l.initial.image)
