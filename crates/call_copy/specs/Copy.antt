-- Copy in (01, 'Copy in'): checks in order, plan, new record.
--
-- Raw bytes are written. An entry of an unknown type does not load, so none is copied. A source image of another length is
-- BadImage, before the record is looked at.
use Rattle.std.specs.Prelude.{◌≡◌, true, ◌||◌, not, List, [], ◌∷◌, ℕ, ◌+◌, ◌*◌, ◌≤◌, ◌<◌, eqb, ltb, length, take}
use Rattle.flash.specs.Flash.{Unit4, units}
use Rattle.page.specs.Record.{Page, next_free, fit_to_use, with_item}
use Rattle.page.specs.Writing.{Outcome, bad_image, bad_record, not_active, over_free, outcome, image_after, stops, item_plan}
use Rattle.sector.specs.declared.Refusal.TheVariants.{KeyNotFound, CorruptedData}
use Rattle.sector.specs.Answers.{Check}
use Rattle.sector.specs.Item.{loads, hash_of_item}
use Rattle.sector.specs.Layout.{sector_size, entries_per_page, entry_size, entry_address, entry_at, field, namespace_of, span_of}

-- load's checks on the source; span 0 or index + span over 126; span over free
abbrev pub copy_checks : List ℕ → Page → List ℕ → ℕ → List Check
copy_checks image page source i =
    let entry = entry_at source i in
    bad_image image
    ∷ bad_image source
    ∷ bad_record page
    ∷ not_active page
    ∷ (not (ltb i entries_per_page), CorruptedData)
    ∷ (not (loads entry), KeyNotFound)
    ∷ (eqb (span_of entry) 0 || ltb entries_per_page (i + span_of entry), CorruptedData)
    ∷ over_free page (span_of entry)
    ∷ []

-- what passes them all
pub record CopyFits (image : List ℕ) (page : Page) (source : List ℕ) (i : ℕ) : Type 0 where
  pub whole : length image ≡ sector_size
  pub source_whole : length source ≡ sector_size
  pub fit : fit_to_use page ≡ true
  pub inside : i < entries_per_page
  pub some : 1 ≤ span_of (entry_at source i)
  pub spans : i + span_of (entry_at source i) ≤ entries_per_page
  pub room : next_free page + span_of (entry_at source i) ≤ entries_per_page

-- the bytes of the item's entries as they lie in the source
abbrev pub copied_bytes : List ℕ → ℕ → List ℕ
copied_bytes source i = field (entry_address i) (entry_size * span_of (entry_at source i)) source

-- the bytes in one write, marks, state word
unfoldable pub copy_plan : Page → List ℕ → ℕ → List Unit4
copy_plan page source i =
    item_plan (units (entry_address (next_free page)) (copied_bytes source i)) (next_free page) (span_of (entry_at source i)) page.map

abbrev pub with_copy : Page → List ℕ → ℕ → Page
with_copy page source i =
    let entry = entry_at source i in
    with_item page (span_of entry) (namespace_of entry) (hash_of_item entry)

unfoldable pub copy_in : List ℕ → Page → List ℕ → ℕ → ℕ → Outcome
copy_in image page source i n =
    outcome (copy_checks image page source i) (stops n (copy_plan page source i)) page (with_copy page source i)

unfoldable pub copy_in_image : List ℕ → Page → List ℕ → ℕ → ℕ → List ℕ
copy_in_image image page source i n = image_after (copy_checks image page source i) (take n (copy_plan page source i)) image
