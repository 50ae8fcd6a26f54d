-- Both answers occur: a page with one item, in its first entry, tells it from entry 0 on, and nothing from entry 1 on.
use mathlib.Core.Path.{◌≡◌, refl}
use mathlib.Core.List.{List, ◌∷◌, ◌++◌}
use Rattle.std.specs.Prelude.{Some, None}
use Prim.Native.Nat.{ℕ}
use lib.ListN.{replicate}
use Rattle.crc.specs.Crc.{shift, shifts, intake, register, crc32}
use Rattle.flash.specs.Flash.{all_ones}
use Rattle.sector.specs.Item.{item_crc, item_bytes}
use Rattle.sector.specs.Layout.{chunks}
use Rattle.sector.specs.Types.{item_type}
use Rattle.opening_reading.specs.Reading.{header_refusal, payload_refusal}
use Rattle.opening_found.specs.Found.{next_kept}

-- a single of type U8
abbrev page : List ℕ
page = replicate 64 0xFF ++ (item_bytes 1 0x01 1 255 (replicate 16 0x6B) (replicate 8 0x42) ++ replicate 4000 0xFF)

-- entry 0 Written
abbrev map : List ℕ
map = 0xFE ∷ replicate 31 0xFF

pub tells_an_item : next_kept page map 0 ≡ Some (record { index = 0; span = 1 })
unfolding next_kept item_bytes item_crc shift shifts intake register crc32 all_ones chunks item_type header_refusal payload_refusal
tells_an_item = refl

pub tells_the_end : next_kept page map 1 ≡ None
unfolding next_kept item_bytes chunks
tells_the_end = refl
