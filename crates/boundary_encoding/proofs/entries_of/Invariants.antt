-- `entries_of` meets its contract: after k turns the first k entries are those of the bytes.
use mathlib.Core.Path.{◌≡◌}
use Prim.Native.Nat.{◌-◌, ◌≤◌}
use lib.ListN.{length, take}
use Rattle.sector.specs.Layout.{chunks}
use Rattle.boundary_encoding.proofs.entries_of.Given as goal

abbrev pub invariant-loop-k : goal.invariant-loop-k
invariant-loop-k l = (l.k ≤ 126) × (length l.entries ≡ 126) × (take l.k l.entries ≡ take l.k (chunks 126 l.bytes))
