-- `call_erase::without` meets its contract: after k turns the list holds what is kept of the first k places.
use mathlib.Core.Path.{◌≡◌}
use Prim.Native.Nat.{◌-◌, ◌≤◌}
use lib.ListN.{length, take}
use Rattle.page.specs.Record.{without, padded}
use Rattle.call_erase.proofs.without.Given as goal

abbrev pub invariant-loop-k : goal.invariant-loop-k
invariant-loop-k l = (l.k ≤ l.len) × (l.n ≤ l.k) × (l.n ≡ length (without l.index (take l.k l.list))) × (l.kept ≡ padded (without l.index (take l.k l.list)))
