-- `call_erase::all_written` meets its contract: at each turn the entries from i on are all Written exactly where all of them are.
use mathlib.Core.Path.{◌≡◌}
use Prim.Native.Nat.{◌+◌, ◌-◌, ◌≤◌}
use lib.ListN.{take, drop}
use Rattle.flash.specs.Flash.{every}
use Rattle.sector.specs.declared.EntryMapState.TheVariants.{Written}
use Rattle.sector.specs.Map.{states_of, same_state}
use Rattle.call_erase.specs.Erase.{all_written}
use Rattle.call_erase.proofs.all_written.Given as goal

abbrev pub invariant-loop-i : goal.invariant-loop-i
invariant-loop-i l = (l.i ≤ l.i-end) × (l.i-end ≡ l.index + l.span) × (every (same_state Written) (take (l.i-end - l.i) (drop l.i (states_of l.map))) ≡ all_written l.map l.index l.span)
