-- Opening's units lie in the map, whatever the page holds: header and entries stay.
use mathlib.Core.Path.{refl}
use mathlib.Core.Bool.{Bool, true, false, cond}
use mathlib.Core.List.{List, []}
use Prim.Native.Nat.{ℕ, zero, suc, ◌+◌, ◌*◌, ◌≤◌}
use native.Mathlib.Omega.{arith}
use lib.Dec.{eqb}
use lib.ListN.{length, drop, length-take}
use Rattle.flash.specs.Flash.{Unit4, units, run}
use Rattle.flash.proofs.Laws.{Within, within_nil, within_wider, within_append, within_take, within_units, take_run, drop_run}
use Rattle.sector.specs.Layout.{same_bytes}
use Rattle.opening_marks.specs.Marks.{map_unit, changed_units}
use Rattle.std.specs.Prelude.{Result, Ok, Err}
use Rattle.opening_found.specs.declared.Header.{Header}
use Rattle.opening_found.specs.declared.Header.TheVariants.{Blank, Opens}
use Rattle.opening_found.specs.declared.HeaderError.{HeaderError}
use Rattle.opening_found.specs.Found.{header_verdict_of}
use Rattle.opening.specs.Opening.{first_map, opened_map, opening_plan, plan_for, opening_image, opening_stopped_image}
use Rattle.theorem_writing.proofs.Promises.{after_clears}
use Rattle.theorem_power_cut.specs.PowerCut.{MapAlone, OpeningMarksAlone}

-- the units in which two maps differ
within_changed : (j m : ℕ) (old new : List ℕ) → j + m ≤ 8 → Within 32 64 (changed_units j m old new)
unfolding changed_units
within_changed j zero old new h = within_nil
within_changed j (suc m) old new h = within_append (one (same_bytes (map_unit j old) (map_unit j new))) (within_changed (suc j) m old new (omega arith))
  where
    one : (same : Bool) → Within 32 64 (cond same [] (units (32 + 4 * j) (map_unit j new)))
    one true = within_nil
    one false =
        within_wider 32 64 (omega arith) (omega (arith, length-take 4 (drop (4 * j) new)))
        (within_units (32 + 4 * j) (map_unit j new))

within_plan : (verdict : Result Header HeaderError) (image : List ℕ) → Within 32 64 (plan_for verdict image)
within_plan (Ok Blank) image = within_nil
within_plan (Ok Opens) image =
    unfold opening_plan in within_append (within_changed 0 8 _ (first_map image) (omega arith)) (within_changed 0 8 (first_map image) (opened_map image) (omega arith))
within_plan (Err refused) image = within_nil

-- any of them
map_alone : {plan : List Unit4} (image : List ℕ) → Within 32 64 plan → MapAlone image (run plan image)
map_alone {plan} image w = (after_clears true plan image, take_run image w, drop_run image w)

pub opening_marks_alone : OpeningMarksAlone
unfolding opening_image opening_stopped_image
opening_marks_alone image =
    let plan = within_plan (header_verdict_of image) image in
    (by_size (eqb (length image) 4096) plan, λ n. by_size (eqb (length image) 4096) (within_take n plan))
  where
    by_size : (whole : Bool) {plan : List Unit4} → Within 32 64 plan → MapAlone image (cond whole (run plan image) image)
    by_size true w = map_alone image w
    by_size false w = (after_clears false [] image, refl, refl)
