-- `call_purge::zero_entries` meets its contract: the entries still to come, zeroed in what there is, are all of them zeroed in the image.
use mathlib.Core.Path.{◌≡◌}
use mathlib.Core.List.{List}
use Prim.Native.Nat.{ℕ, ◌+◌, ◌-◌, ◌*◌}
use lib.ListN.{replicate}
use Rattle.flash.specs.Flash.{Unit4, units, run}
use Rattle.sector.specs.Layout.{entry_size, entry_address}
use Rattle.call_purge.proofs.zero_entries.Given as goal

-- the units that zero n entries
abbrev pub zeros : ℕ → ℕ → List Unit4
zeros i n = units (entry_address i) (replicate (entry_size * n) 0)

abbrev pub invariant-loop-i : goal.invariant-loop-i
invariant-loop-i l = run (zeros l.i (l.index + l.span - l.i)) l.image ≡ run (zeros l.index l.span) l.initial.image
