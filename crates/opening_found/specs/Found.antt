-- What a page holds (01, 'Opening'), read out of its image without programming it.
--
-- In order: the header's verdict; the kept items; the next of them, and how one goes on from it.
-- Not here: the reading (crate opening_reading), and what opening makes of header and items (crate opening).
use Rattle.std.specs.Prelude.{◌≡◌, refl, Bool, ◌&&◌, not, cond, Option, Some, None, Result, Ok, Err, List, [], ◌∷◌, ℕ, zero, ◌+◌, ◌<◌, ◌≤◌, eqb, length, take, drop}
use Rattle.flash.specs.Flash.{all_ones}
use Rattle.sector.specs.Header.{state_of_word, header_crc, is_uninitialized, is_in_use}
use Rattle.sector.specs.Layout.{entries_per_page, map_of, entries_of, state_word, version_of, stored_header_crc}
use Rattle.sector.specs.Map.{states_of}
use Rattle.opening_reading.specs.Reading.{Item, item, kept_from}
pub use Rattle.opening_found.specs.declared.Header.{Header}
pub use Rattle.opening_found.specs.declared.Header.TheVariants.{Blank, Opens}
pub use Rattle.opening_found.specs.declared.HeaderError.{HeaderError}
pub use Rattle.opening_found.specs.declared.HeaderError.TheVariants.{WrongPageState, WrongVersion, WrongHeaderCrc}
pub use Rattle.opening_found.specs.declared.KeptItem.{KeptItem}

-- ---- the header

-- the first rule that applies; the page opens where none does
abbrev pub first_verdict : List (Bool × Result Header HeaderError) → Result Header HeaderError
first_verdict [] = Ok Opens
first_verdict (rule ∷ rules) = cond rule.0 rule.1 (first_verdict rules)

-- state before version before CRC
unfoldable pub header_verdict_of : List ℕ → Result Header HeaderError
header_verdict_of image =
    first_verdict
    ((is_uninitialized (state_of_word (state_word image)) && all_ones image, Ok Blank)
    ∷ (not (is_in_use (state_of_word (state_word image))), Err WrongPageState)
    ∷ (not (eqb (version_of image) 0xFE), Err WrongVersion)
    ∷ (not (eqb (header_crc image) (stored_header_crc image)), Err WrongHeaderCrc)
    ∷ [])

-- ---- items

-- what the page's reading keeps
unfoldable pub kept_items : List ℕ → List Item
kept_items image = kept_from zero zero (states_of (map_of image)) (entries_of image)

-- ---- the next item

-- what the reading keeps where its walk begins at an entry; nothing past the last
abbrev pub items_from : List ℕ → List ℕ → ℕ → List Item
items_from image map from = kept_from zero from (drop from (states_of map)) (drop from (entries_of image))

-- the first of some items, by its index and its span
abbrev pub next_of : List Item → Option KeptItem
next_of [] = None
next_of (item i entries ∷ items) = Some (record { index = i; span = length entries })

-- the first of the items from an entry on
unfoldable pub next_kept : List ℕ → List ℕ → ℕ → Option KeptItem
next_kept image map from = next_of (items_from image map from)

-- the kept items are those from entry 0 on
pub items_from_zero : (image : List ℕ) → kept_items image ≡ items_from image (map_of image) 0
unfolding kept_items
items_from_zero image = refl

-- ---- going on from it

-- the item that an answer names, and the items from its end on
abbrev pub found_from : List ℕ → List ℕ → Option KeptItem → List Item
found_from image map None = []
found_from image map (Some kept) =
    item kept.index (take kept.span (drop kept.index (entries_of image))) ∷ items_from image map (kept.index + kept.span)

-- who begins at entry 0, and goes on at index + span of each item named, meets every kept item, in their order
abbrev pub MeetsEveryItem : Type 0
MeetsEveryItem =
    (image map : List ℕ) (from : ℕ) → length map ≡ 32
    → items_from image map from ≡ found_from image map (next_kept image map from)

-- and comes to an end: no item named lies before the entry asked for, and each ends further on, on the page
abbrev pub GoesOn : Type 0
GoesOn =
    (image map : List ℕ) (from : ℕ) (kept : KeptItem) → length map ≡ 32 → next_kept image map from ≡ Some kept
    → (from ≤ kept.index) × (0 < kept.span) × (kept.index + kept.span ≤ entries_per_page)
