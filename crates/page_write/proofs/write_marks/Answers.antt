-- `page_write::write_marks` meets its contract: the bytes from `first` to `end` are those of the units that hold the range's marks.
use mathlib.Core.Path.{◌≡◌}
use Prim.Native.Nat.{ℕ, ◌+◌, ◌-◌, ◌*◌, ◌/◌, ◌≤◌}
use native.Mathlib.Omega.{arith}
use Rattle.sector.specs.Map.{map_units}
use Rattle.page_write.proofs.write_marks.Goals as goal

size : (i n : ℕ) → 1 ≤ n → 4 * ((i + n - 1) / 16 + 1 - i / 16) ≡ 4 * ((i + n - 1) / 16) + 4 - 4 * (i / 16)
size i n h = omega arith

pub returns : goal.returns
unfolding map_units
returns c =
    rw (size c.args.index c.args.span c.requires.1)
    (let both = c.write_aligned.ensures in
    record { total = both.total; image = both.image })
