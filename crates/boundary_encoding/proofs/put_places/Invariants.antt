-- `put_places` meets its contract: after k turns the bytes of the first k places lie after the rest of the record.
use mathlib.Core.Path.{◌≡◌}
use mathlib.Core.List.{◌++◌}
use Prim.Native.Nat.{◌+◌, ◌-◌, ◌*◌, ◌≤◌}
use lib.ListN.{length, drop}
use Rattle.boundary_encoding.proofs.Laws.{places_front}
use Rattle.boundary_encoding.proofs.put_places.Given as goal

abbrev pub invariant-loop-k : goal.invariant-loop-k
invariant-loop-k l = (l.k ≤ 126) × (length l.out ≡ 675) × (l.out ≡ places_front l.initial.out l.list l.k ++ drop (45 + 5 * l.k) l.initial.out)
