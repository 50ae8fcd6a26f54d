-- Laws of plans: how many units the marks and the state word of an item have.
use mathlib.Core.Path.{◌≡◌, refl}
use mathlib.Core.Bool.{Bool, true, false, cond}
use mathlib.Core.List.{List, [], ◌++◌}
use Prim.Native.Nat.{ℕ, ◌+◌, ◌-◌, ◌*◌, ◌/◌, ◌≤◌}
use native.Mathlib.Omega.{arith}
use lib.Dec.{eqb}
use lib.ListN.{length, drop, length-append, length-take}
use Rattle.flash.specs.Flash.{units}
use Rattle.flash.proofs.Laws.{length-units_whole, length-units_le}
use Rattle.sector.specs.declared.PageState.TheVariants.{Full}
use Rattle.sector.specs.Header.{state_bytes}
use Rattle.sector.specs.Layout.{entries_per_page, map_offset, field}
use Rattle.sector.specs.Map.{map_units}
use Rattle.page.specs.Writing.{full_units}

-- at most eight, whatever the map's length
pub length-map_units_le : (i n : ℕ) (map : List ℕ) → i + n ≤ 126 → length (map_units i n map) ≤ 8
unfolding map_units
length-map_units_le i n map h =
    let first : ℕ = i / 16 in
    let size : ℕ = 4 * ((i + n - 1) / 16 + 1 - first) in
    let bytes : List ℕ = field (4 * first) size map in
    omega (arith, length-units_le (map_offset + 4 * first) bytes, length-take size (drop (4 * first) map))

-- the state word is one unit, where it is written
pub length-full_units : (end : ℕ) → length (full_units end) ≡ cond (eqb end entries_per_page) 1 0
length-full_units end = go (eqb end entries_per_page)
  where
    go : (full : Bool) → length (cond full (units 0 (state_bytes Full)) []) ≡ cond full 1 0
    go true = length-units_whole 0 1 (state_bytes Full) refl
    go false = refl

-- an item's marks and the state word are at most nine units
pub length_seal_le : (i n : ℕ) (map : List ℕ) → i + n ≤ 126 → length (map_units i n map ++ full_units (i + n)) ≤ 9
length_seal_le i n map h = rw (length-append, length-full_units) (go (eqb (i + n) entries_per_page))
  where
    go : (full : Bool) → length (map_units i n map) + cond full 1 0 ≤ 9
    go true = omega (arith, length-map_units_le i n map h)
    go false = omega (arith, length-map_units_le i n map h)
