-- `sector_map::mark_range` meets its contract: the marks still to come, made on what there is, are all the marks on the map.
use mathlib.Core.Path.{◌≡◌}
use Prim.Native.Nat.{◌+◌, ◌-◌, ◌≤◌}
use Rattle.sector.specs.Map.{mark_range}
use Rattle.sector_map.proofs.mark_range.Given as goal

abbrev pub invariant-loop-i : goal.invariant-loop-i
invariant-loop-i l = (l.i ≤ l.i-end) × (l.i-end ≡ l.index + l.span) × (mark_range l.state l.i (l.index + l.span - l.i) l.out ≡ mark_range l.state l.index l.span l.initial.out)
