-- `call_hash_bound::bound_from` meets its contract: each turn is the definition's at its index, and the entries left are fewer at the next.
use Rattle.call_hash_bound.proofs.+bound_from.Given as goal
use Prim.Native.Nat.{◌-◌}

-- the entries left
abbrev pub decreases-bound_from : goal.decreases-bound_from
decreases-bound_from l = 126 - l.index
