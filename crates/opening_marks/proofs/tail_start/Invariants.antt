-- `opening_marks::tail_start` meets its contract: from the entry reached on all is free, and where the loop stops the entry before is not.
use Rattle.std.proofs.Common.{◌≡◌, true, drop}
use Rattle.sector.specs.Layout.{entries_of}
use Rattle.sector.specs.Map.{states_of}
use Rattle.opening_reading.specs.Reading.{is_free_tail}
use Rattle.opening_marks.proofs.tail_start.Given as goal

abbrev pub invariant-loop-index : goal.invariant-loop-index
invariant-loop-index l = is_free_tail (drop l.index (states_of l.map)) (drop l.index (entries_of l.image)) ≡ true
