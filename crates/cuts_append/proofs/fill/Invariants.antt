-- `fill` meets its contract: the bytes passed are the first of the curve.
use Rattle.std.proofs.Common.{◌≡◌, take}
use Rattle.cuts_append.specs.Cutting.{curve}
use Rattle.cuts_append.proofs.fill.Given as goal

abbrev pub invariant-loop-i : goal.invariant-loop-i
invariant-loop-i l = take l.i l.payload ≡ curve l.i
