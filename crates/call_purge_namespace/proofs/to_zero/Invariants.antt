-- `call_purge_namespace::to_zero` meets its contract: the marks of the entries passed, and those of the walk from i on, are those of the whole walk.
use mathlib.Core.Path.{◌≡◌}
use mathlib.Core.Bool.{Bool, false}
use mathlib.Core.List.{List, ◌++◌}
use Prim.Native.Nat.{ℕ}
use lib.ListN.{take, drop}
use Rattle.sector.specs.Layout.{entries_of}
use Rattle.sector.specs.Map.{states_of}
use Rattle.call_purge_namespace.specs.PurgeNamespace.{to_zero}
use Rattle.call_purge_namespace.specs.declared.Step.{Step}
use Rattle.call_purge_namespace.proofs.to_zero.Given as goal

-- the walk from an entry on
abbrev pub walk : List ℕ → List ℕ → ℕ → Step → ℕ → List Bool
walk image map namespace step i = to_zero namespace step.behind step.zeroed (drop i (states_of map)) (drop i (entries_of image))

abbrev pub invariant-loop-i : goal.invariant-loop-i
invariant-loop-i l =
    take l.i l.mark-items ++ walk l.image l.map l.namespace l.step l.i ≡ to_zero l.namespace 0 false (states_of l.map) (entries_of l.image)
