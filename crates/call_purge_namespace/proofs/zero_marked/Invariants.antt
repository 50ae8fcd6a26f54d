-- `call_purge_namespace::zero_marked` meets its contract: the marks from i on, zeroed in what there is, are all of them zeroed in the image.
use mathlib.Core.Path.{◌≡◌}
use lib.ListN.{drop}
use Rattle.flash.specs.Flash.{run}
use Rattle.call_purge_namespace.specs.PurgeNamespace.{zero_units}
use Rattle.call_purge_namespace.proofs.zero_marked.Given as goal

abbrev pub invariant-loop-i : goal.invariant-loop-i
invariant-loop-i l = run (zero_units l.i (drop l.i l.marks)) l.image ≡ run (zero_units 0 l.marks) l.initial.image
