-- `show::ranges` is safe and ends: each range ends at or after its start and at the last cut at most, and no more cuts are counted than were passed.
use Prim.Native.Nat.{◌≤◌, ◌+◌, ◌-◌}
use Rattle.cuts_report.proofs.show.ranges.Given as goal

abbrev pub invariant-loop-n : goal.invariant-loop-n
invariant-loop-n g l = (l.n ≤ l.units + 1) × (l.otherwise ≤ l.n)

abbrev pub decreases-loop-n : goal.decreases-loop-n
decreases-loop-n g l = l.units + 1 - l.n
