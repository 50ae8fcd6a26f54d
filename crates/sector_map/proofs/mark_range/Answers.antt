-- `sector_map::mark_range` meets its contract: the marks still to come, made on what there is, are all the marks on the map.
use mathlib.Core.Path.{◌≡◌}
use Prim.Native.Nat.{suc, ◌+◌, ◌-◌}
use native.Mathlib.Numerals.{add-one}
use native.Mathlib.Omega.{arith}
use borrow.Author.Rules.{rules}
use Rattle.sector.specs.Map.{mark_range}
use Rattle.sector_map.proofs.mark_range.Goals as goal

pub loop-i-preserved : goal.loop-i-preserved
unfolding mark_range
loop-i-preserved c =
    let end = c.args.index + c.args.span in
    let one : end - c.loop-i.i ≡ suc (end - suc c.loop-i.i) = omega arith in
    (omega arith, search rules, rw (c.mark_mask.ensures, add-one c.loop-i.i) (rw one at c.loop-i.invariant.2))
