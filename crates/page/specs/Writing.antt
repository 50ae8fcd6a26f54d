-- A writing call (01, 'Numbers that come back', 'Programming'): its checks in 01's order, its plan of units, its new record.
--
-- In order: the checks that calls share; what a call hands back and what it leaves in the image; the plan of an item.
-- 1 to 10 change nothing; 11 leaves the first n units programmed and hands back the incoming record.
use Rattle.std.specs.Prelude.{Bool, not, cond, List, [], ◌++◌, ℕ, ◌+◌, eqb, ltb, length, Err}
use Rattle.flash.specs.Flash.{Unit4, units, run}
use Rattle.sector.specs.declared.Refusal.TheVariants.{BadImage, BadRecord, WrongState, PageFull, Stopped}
use Rattle.sector.specs.declared.EntryMapState.TheVariants.{Written}
use Rattle.sector.specs.declared.PageState.TheVariants.{Full}
use Rattle.sector.specs.Answers.{Answer, Done, Check, refusal, accepted}
use Rattle.sector.specs.Header.{state_bytes, is_active}
use Rattle.sector.specs.Layout.{sector_size, entries_per_page}
use Rattle.sector.specs.Map.{mark_range, map_units}
use Rattle.page.specs.Record.{Page, fit_to_use, free}

-- ---- checks

-- image not 4,096 bytes
abbrev pub bad_image : List ℕ → Check
bad_image image = (not (eqb (length image) sector_size), BadImage)

-- record not fit
abbrev pub bad_record : Page → Check
bad_record page = (not (fit_to_use page), BadRecord)

-- append, copy target, mark full: not Active
abbrev pub not_active : Page → Check
not_active page = (not (is_active page.state), WrongState)

-- span over free
abbrev pub over_free : Page → ℕ → Check
over_free page span = (ltb (free page) span, PageFull)

-- ---- a call's result

-- what a call answers, and the record that it leaves: on a refusal the incoming one; on Stopped too, and then it no longer tells
-- what the sector holds: such a page is good for opening only
pub record Outcome : Type 0 where
  pub answer : Answer
  pub page : Page

abbrev pub answered : Answer → Page → Outcome
answered answer page = record { answer = answer; page = page }

-- the first refusal, or Stopped, with the incoming record; else Done with the new one
abbrev pub outcome : List Check → Bool → Page → Page → Outcome
outcome checks stopped page new =
    cond (accepted checks) (cond stopped (answered (Err Stopped) page) (answered Done new)) (answered (refusal checks) page)

-- units are programmed where no check refuses
abbrev pub image_after : List Check → List Unit4 → List ℕ → List ℕ
image_after checks plan image = cond (accepted checks) (run plan image) image

-- n is below the total
abbrev pub stops : ℕ → List Unit4 → Bool
stops n plan = ltb n (length plan)

-- ---- the plan of an item

-- the state word Full, where no entry is free after the item
abbrev pub full_units : ℕ → List Unit4
full_units end = cond (eqb end entries_per_page) (units 0 (state_bytes Full)) []

-- the item's bytes, then its marks, then the state word
unfoldable pub item_plan : List Unit4 → ℕ → ℕ → List ℕ → List Unit4
item_plan bytes start span map =
    bytes ++ (map_units start span (mark_range Written start span map) ++ full_units (start + span))
