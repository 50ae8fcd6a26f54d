-- `files::fill` is safe and ends: each turn leaves less to fill.
use mathlib.Core.Path.{◌≡◌}
use Prim.Native.Nat.{◌≤◌, ◌<◌, ◌-◌, ◌^◌}
use lib.ListN.{length}
use Rattle.cuts_report.proofs.files.fill.Given as goal

abbrev pub invariant-loop-count : goal.invariant-loop-count
invariant-loop-count g l = (length l.bytes ≡ length l.initial.bytes) × (l.count ≤ length l.bytes) × (length l.bytes < 2 ^ 64)

abbrev pub decreases-loop-count : goal.decreases-loop-count
decreases-loop-count g l = length l.bytes - l.count
