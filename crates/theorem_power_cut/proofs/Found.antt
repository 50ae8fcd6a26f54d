-- A sector's map, and an item that its reading keeps: whole, in the entries from its index on.
use mathlib.Core.Path.{◌≡◌, sym, ◌∙◌}
use mathlib.Core.List.{List, Memᴰ}
use Prim.Native.Nat.{ℕ}
use native.Mathlib.Omega.{arith}
use lib.ListN.{length, drop, length-drop}
use lib.Seq.{length-take-le}
use Rattle.sector.specs.Layout.{map_of, entries_of}
use Rattle.sector.specs.Map.{states_of}
use Rattle.sector.proofs.Laws.{length-states_of, length-entries_of}
use Rattle.opening_reading.specs.Reading.{item}
use Rattle.opening_reading.proofs.Verdicts.{Entries}
use Rattle.opening_found.specs.Found.{kept_items}
use Rattle.theorem_reopening.proofs.KeptItem.{WholeAt, kept_whole}

pub map_size_lem : (image : List ℕ) → length image ≡ 4096 → length (map_of image) ≡ 32
map_size_lem image size = length-take-le 32 (drop 32 image) (rw length-drop (omega arith))

pub find : {index : ℕ} {group : Entries} (image : List ℕ) → length image ≡ 4096 → Memᴰ (item index group) (kept_items image)
    → WholeAt index group (entries_of image)
unfolding kept_items
find image size kept =
    kept_whole (states_of (map_of image)) (entries_of image) (length-states_of (map_of image) (map_size_lem image size) ∙ sym (length-entries_of image)) kept
