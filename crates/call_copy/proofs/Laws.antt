-- Laws of copy in: where the item's bytes lie in the source, the plan that writes them, and the record that it makes.
use mathlib.Core.Path.{◌≡◌, ap}
use mathlib.Core.List.{List, ◌++◌}
use Prim.Native.Nat.{ℕ, ◌+◌, ◌-◌, ◌*◌}
use native.Mathlib.Omega.{arith}
use lib.ListN.{take, drop}
use Rattle.flash.specs.Flash.{units}
use Rattle.page.specs.Record.{Page, next_free, with_item}
use Rattle.page.specs.Writing.{full_units, item_plan}
use Rattle.sector.specs.Item.{hash_of_item}
use Rattle.sector.specs.Layout.{entry_size, entry_address, entry_at, namespace_of, span_of}
use Rattle.sector.specs.Map.{map_units}
use Rattle.call_copy.specs.Copy.{copied_bytes, copy_plan, with_copy}

-- from the item's first byte up to the entry after it
pub part_copied : (source : List ℕ) (i : ℕ)
    → take (entry_address (i + span_of (entry_at source i)) - entry_address i) (drop (entry_address i) source) ≡ copied_bytes source i
part_copied source i = ap (λ (n : ℕ). take n (drop (entry_address i) source)) (size i (span_of (entry_at source i)))
  where
    size : (i n : ℕ) → entry_address (i + n) - entry_address i ≡ entry_size * n
    size i n = omega arith

-- the bytes from the item's first entry up to the one after it, and the marks of the record that has the item
pub plan_copied : (page new : Page) (source entry : List ℕ) (i start first end hash : ℕ)
    → entry ≡ entry_at source i → new ≡ with_item page (span_of entry) (namespace_of entry) hash
    → start ≡ next_free page → first ≡ entry_address i → end ≡ entry_address (i + span_of entry)
    → units (entry_address start) (take (end - first) (drop first source)) ++ (map_units start (span_of entry) new.map ++ full_units (start + span_of entry))
    ≡ copy_plan page source i
unfolding copy_plan item_plan with_item
plan_copied page new source entry i start first end hash read with_it at from to =
    rw (with_it, at, from, to, read, part_copied source i)

pub with_copied : (page : Page) (source entry : List ℕ) (i hash : ℕ) → entry ≡ entry_at source i → hash ≡ hash_of_item entry
    → with_item page (span_of entry) (namespace_of entry) hash ≡ with_copy page source i
with_copied page source entry i hash read hashed = rw (hashed, read)
