-- `places_of` meets its contract: after k turns the first k places are those of the bytes.
use mathlib.Core.Path.{◌≡◌}
use Prim.Native.Nat.{◌-◌, ◌≤◌}
use lib.ListN.{length, take, drop}
use Rattle.boundary_encoding.specs.Encoding.{places_of}
use Rattle.boundary_encoding.proofs.places_of.Given as goal

abbrev pub invariant-loop-k : goal.invariant-loop-k
invariant-loop-k l = (l.k ≤ 126) × (length l.list ≡ 126) × (take l.k l.list ≡ take l.k (places_of 126 (drop 45 l.bytes)))
