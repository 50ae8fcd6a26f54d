-- `types::count_others` is safe: it counts at most one a byte.
use Rattle.std.proofs.Common.{◌≤◌}
use Rattle.test_writing.proofs.types.count_others.Given as goal

abbrev pub invariant-loop-kind : goal.invariant-loop-kind
invariant-loop-kind g l = l.others ≤ l.kind
