-- The steps that the code takes: what the verdict at an entry does to the map, and to the list of kept items; what the walk leaves; the
-- record of a header, a map and a list; what is read off a page before any byte is programmed.
use Rattle.std.specs.Prelude.{◌≡◌, cond, List, [], ◌∷◌, ◌++◌, map, ℕ, zero, ◌+◌, eqb, length}
use Rattle.page.specs.declared.Listed.{Listed}
use Rattle.page.specs.Record.{Page, padded}
use Rattle.sector.specs.declared.EntryMapState.TheVariants.{Written, Erased}
use Rattle.sector.specs.Header.{state_of_word}
use Rattle.sector.specs.Item.{hash_of_item}
use Rattle.sector.specs.Layout.{map_of, entries_of, state_word, sequence_of, version_of, stored_header_crc, namespace_of}
use Rattle.sector.specs.Map.{states_of, count_in, mark_range}
use Rattle.opening_reading.specs.declared.Verdict.{Verdict}
use Rattle.opening_reading.specs.declared.Verdict.TheVariants.{NotAnItem, RefusedEntry, RefusedItem, Kept}
use Rattle.opening_reading.specs.Reading.{walk, kept_from}
use Rattle.opening_marks.specs.Marks.{HasStates}
use Rattle.opening.specs.declared.Changes.{Changes}
use Rattle.opening.specs.declared.Walked.{Walked}
use Rattle.opening.specs.Opening.{refused_headers, listed_items, first_map, opened_page}

-- the map, with the mark that the verdict at entry i gives
abbrev pub marked_by : Verdict → ℕ → List ℕ → List ℕ
marked_by NotAnItem i map = map
marked_by (RefusedEntry reason) i map = mark_range Erased i 1 map
marked_by (RefusedItem reason k) i map = mark_range Erased i (k + 1) map
marked_by (Kept k) i map = mark_range Written i (k + 1) map

-- one place more, unless in namespace 0
abbrev pub with_listed : ℕ → List ℕ → List Listed → List Listed
with_listed i entry places =
    cond (eqb (namespace_of entry) 0) places (places ++ record { hash = hash_of_item entry; index = i } ∷ [])

-- a kept item is listed
abbrev pub listed_by : Verdict → ℕ → List ℕ → List Listed → List Listed
listed_by NotAnItem i entry places = places
listed_by (RefusedEntry reason) i entry places = places
listed_by (RefusedItem reason k) i entry places = places
listed_by (Kept k) i entry places = with_listed i entry places

-- the map with its marks, which entries are headers of refused payload items, the kept items
pub record WalkLeaves (image map : List ℕ) (left : Walked) : Type 0 where
  pub marks : HasStates map (walk zero Erased (states_of map) (entries_of image)) left.map
  pub heads : left.heads ≡ refused_headers zero (states_of map) (entries_of image)
  pub listing : left.listing ≡ listed_items (kept_from zero zero (states_of map) (entries_of image))

-- the header's fields, the map with its counts, the list
unfoldable pub header_record : List ℕ → List ℕ → List Listed → Page
header_record image map places =
    record {
      state = state_of_word (state_word image);
      sequence = sequence_of image;
      version = version_of image;
      crc = stored_header_crc image;
      map = map;
      used = count_in Written (states_of map);
      erased = count_in Erased (states_of map);
      len = length places;
      list = padded places;
    }

-- the map before opening, the one after its first pass, and the record that it hands back
pub record ChangesOf (image : List ℕ) (changes : Changes) : Type 0 where
  pub map : changes.map ≡ map_of image
  pub first : changes.first ≡ first_map image
  pub page : changes.page ≡ opened_page image
