-- Opening (01, 'Opening'): the map units that it programs, the record that it hands back.
--
-- In order: the list; the new map and its units, in two passes; answer and image; those of a call told to stop.
-- Not here: the reading (crate opening_reading), which headers open and which items are kept (crate opening_found), and what the passes
-- do to the states and the units (crate opening_marks).
use Rattle.std.specs.Prelude.{Bool, true, false, cond, Result, Ok, Err, List, [], ◌∷◌, ◌++◌, ℕ, zero, suc, eqb, length, take, drop, get_or}
use Rattle.flash.specs.Flash.{Unit4, run}
use Rattle.page.specs.declared.Listed.{Listed}
use Rattle.page.specs.Record.{Page, padded, uninitialized}
use Rattle.page.specs.Writing.{Outcome, answered, stops}
use Rattle.sector.specs.declared.Refusal.TheVariants.{BadImage, CorruptedData, Stopped}
use Rattle.sector.specs.declared.EntryMapState.{EntryMapState}
use Rattle.sector.specs.declared.EntryMapState.TheVariants.{Written, Erased}
use Rattle.sector.specs.Header.{state_of_word}
use Rattle.sector.specs.Item.{hash_of_item}
use Rattle.sector.specs.Layout.{sector_size, entries_per_page, map_of, entries_of, state_word, sequence_of, version_of, stored_header_crc, namespace_of}
use Rattle.sector.specs.Map.{states_of, unpack, pack, count_in}
use Rattle.opening_marks.specs.Marks.{first_pass, changed_units}
use Rattle.opening_reading.specs.declared.Verdict.{Verdict}
use Rattle.opening_reading.specs.declared.Verdict.TheVariants.{NotAnItem, RefusedEntry, RefusedItem, Kept}
use Rattle.opening_reading.specs.Reading.{verdict_at, steps_over, Item, item, opened_states}
use Rattle.opening_found.specs.declared.Header.{Header}
use Rattle.opening_found.specs.declared.Header.TheVariants.{Blank, Opens}
use Rattle.opening_found.specs.declared.HeaderError.{HeaderError}
use Rattle.opening_found.specs.Found.{header_verdict_of, kept_items}
use Rattle.sector.specs.Answers.{Done}

-- ---- the list

abbrev pub header_of : List (List ℕ) → List ℕ
header_of entries = get_or entries 0 []

-- kept items outside namespace 0, by rising index
abbrev pub listed_items : List Item → List Listed
listed_items [] = []
listed_items (item i entries ∷ items) =
    cond (eqb (namespace_of (header_of entries)) 0)
    (listed_items items)
    (record { hash = hash_of_item (header_of entries); index = i } ∷ listed_items items)

-- ---- the new map

-- the two states that belong to no entry stay
unfoldable pub opened_map : List ℕ → List ℕ
opened_map image =
    pack (opened_states (states_of (map_of image)) (entries_of image) ++ drop entries_per_page (unpack (map_of image)))

abbrev pub is_refused_item : Verdict → Bool
is_refused_item NotAnItem = false
is_refused_item (RefusedEntry reason) = false
is_refused_item (RefusedItem reason k) = true
is_refused_item (Kept k) = false

-- which entries are headers of refused payload items
abbrev pub refused_headers : ℕ → List EntryMapState → List (List ℕ) → List Bool
refused_headers k [] entries = []
refused_headers k (s ∷ states) [] = []
refused_headers zero (s ∷ states) (entry ∷ entries) =
    is_refused_item (verdict_at s entry states entries)
    ∷ refused_headers (steps_over (verdict_at s entry states entries)) states entries
refused_headers (suc k) (s ∷ states) (entry ∷ entries) = false ∷ refused_headers k states entries

-- the map after the first pass
unfoldable pub first_map : List ℕ → List ℕ
first_map image =
    let states = states_of (map_of image) in
    pack
    (first_pass states (opened_states states (entries_of image)) (refused_headers zero states (entries_of image))
    ++ drop entries_per_page (unpack (map_of image)))

-- only the map is programmed
unfoldable pub opening_plan : List ℕ → List Unit4
opening_plan image =
    changed_units 0 8 (map_of image) (first_map image) ++ changed_units 0 8 (first_map image) (opened_map image)

-- ---- the call

-- used and erased count the map
unfoldable pub opened_page : List ℕ → Page
opened_page image =
    record {
      state = state_of_word (state_word image);
      sequence = sequence_of image;
      version = version_of image;
      crc = stored_header_crc image;
      map = opened_map image;
      used = count_in Written (states_of (opened_map image));
      erased = count_in Erased (states_of (opened_map image));
      len = length (listed_items (kept_items image));
      list = padded (listed_items (kept_items image));
    }

abbrev pub answer_for : Result Header HeaderError → List ℕ → Outcome
answer_for (Ok Blank) image = answered Done uninitialized
answer_for (Ok Opens) image = answered Done (opened_page image)
answer_for (Err refused) image = answered (Err CorruptedData) uninitialized

abbrev pub plan_for : Result Header HeaderError → List ℕ → List Unit4
plan_for (Ok Blank) image = []
plan_for (Ok Opens) image = opening_plan image
plan_for (Err refused) image = []

-- a refused opening hands back the Uninitialized record
unfoldable pub opening : List ℕ → Outcome
opening image =
    cond (eqb (length image) sector_size) (answer_for (header_verdict_of image) image) (answered (Err BadImage) uninitialized)

-- and changes nothing
unfoldable pub opening_image : List ℕ → List ℕ
opening_image image =
    cond (eqb (length image) sector_size) (run (plan_for (header_verdict_of image) image) image) image

-- ---- the call, told to stop

-- 11 where n is below the total, with the Uninitialized record
unfoldable pub opening_stopped : List ℕ → ℕ → Outcome
opening_stopped image n =
    cond (eqb (length image) sector_size)
    (cond (stops n (plan_for (header_verdict_of image) image)) (answered (Err Stopped) uninitialized) (answer_for (header_verdict_of image) image))
    (answered (Err BadImage) uninitialized)

-- and the first n units programmed
unfoldable pub opening_stopped_image : List ℕ → ℕ → List ℕ
opening_stopped_image image n =
    cond (eqb (length image) sector_size) (run (take n (plan_for (header_verdict_of image) image)) image) image
