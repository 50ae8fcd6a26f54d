-- How many units an opening has, and what it does when it is not stopped before the last.
use mathlib.Core.Path.{◌≡◌, refl}
use mathlib.Core.List.{List}
use Prim.Native.Nat.{ℕ, ◌≤◌}
use native.Mathlib.Omega.{arith}
use lib.ListN.{length, length-append}
use lib.Seq.{take_all}
use borrow.Author.Tests.{le-ltb}
use Rattle.sector.specs.Layout.{map_of}
use Rattle.opening_marks.specs.Marks.{changed_units}
use Rattle.opening_marks.proofs.Passes.{length_changed_le}
use Rattle.std.specs.Prelude.{Result, Ok, Err}
use Rattle.opening_found.specs.declared.Header.{Header}
use Rattle.opening_found.specs.declared.Header.TheVariants.{Blank, Opens}
use Rattle.opening_found.specs.declared.HeaderError.{HeaderError}
use Rattle.opening_found.specs.Found.{header_verdict_of}
use Rattle.opening.specs.Opening.{opened_map, first_map, opening_plan, plan_for, opening, opening_image, opening_stopped, opening_stopped_image}

-- eight of the map in each pass at most
pub length-plan_le : (image : List ℕ) → length (opening_plan image) ≤ 16
unfolding opening_plan
length-plan_le image =
    omega (
      arith,
      length-append (changed_units 0 8 (map_of image) (first_map image)) (changed_units 0 8 (first_map image) (opened_map image)),
      length_changed_le 0 8 (map_of image) (first_map image),
      length_changed_le 0 8 (first_map image) (opened_map image),
    )

length-plan_for_le : (verdict : Result Header HeaderError) (image : List ℕ) → length (plan_for verdict image) ≤ 16
length-plan_for_le (Ok Blank) image = omega arith
length-plan_for_le (Ok Opens) image = length-plan_le image
length-plan_for_le (Err refused) image = omega arith

-- n at or above the most that it can have is the plain call
pub opening_plain : (image : List ℕ) (n : ℕ) → 16 ≤ n → (opening_stopped image n ≡ opening image) × (opening_stopped_image image n ≡ opening_image image)
unfolding opening_stopped opening_stopped_image opening opening_image
opening_plain image n h =
    let plan = plan_for (header_verdict_of image) image in
    let enough : length plan ≤ n = omega (arith, length-plan_for_le (header_verdict_of image) image) in
    rw (le-ltb n (length plan) enough, take_all n plan enough) (refl, refl)
