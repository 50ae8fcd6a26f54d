-- The record (01, 'The record'): next free, free, and when it is fit to use, a definition for each clause in 01's order.
--
-- In order: entries; the list of hashes; fitness; the Uninitialized record; the record after an item and after an erasure.
use Rattle.std.specs.Prelude.{Bool, ◌&&◌, ◌||◌, not, cond, List, [], ◌∷◌, ◌++◌, ℕ, ◌+◌, ◌-◌, ◌^◌, leb, ltb, eqb, length, take, drop, set, replicate}
use Rattle.flash.specs.Flash.{every, all_ones}
use Rattle.sector.specs.declared.EntryMapState.TheVariants.{Written, Erased}
use Rattle.sector.specs.declared.PageState.TheVariants.{Uninitialized, Full}
use Rattle.sector.specs.Header.{is_uninitialized}
use Rattle.sector.specs.Layout.{entries_per_page}
use Rattle.sector.specs.Map.{states_of, count_in, mark_range}
use Rattle.page.specs.declared.Listed.{Listed}
use Rattle.page.specs.declared.ThinPage.{ThinPage}

-- the record, under the name that all definitions use; the code's struct is ThinPage
abbrev pub Page : Type 0
Page = ThinPage

-- ---- entries

abbrev pub next_free : Page → ℕ
next_free page = page.used + page.erased

-- 0 where no entry is free
abbrev pub free : Page → ℕ
free page = entries_per_page - next_free page

-- ---- the list

-- a place that is not in use
abbrev pub no_item : Listed
no_item = record { hash = 0; index = 0 }

-- a place names an entry, and a hash of 24 bits
abbrev pub place_fits : Listed → Bool
place_fits place = ltb place.index entries_per_page && ltb place.hash (2 ^ 24)

abbrev pub place_zero : Listed → Bool
place_zero place = eqb place.index 0 && eqb place.hash 0

-- the places that do not name this index, in their order
unfoldable pub without : ℕ → List Listed → List Listed
without index [] = []
without index (place ∷ places) = cond (eqb place.index index) (without index places) (place ∷ without index places)

-- the places in use, and zero places after them, 126 in all
abbrev pub padded : List Listed → List Listed
padded places = places ++ replicate (entries_per_page - length places) no_item

-- the places in use
abbrev pub in_use : Page → List Listed
in_use page = take page.len page.list

-- ---- fitness

-- used + erased at most 126
abbrev pub counts_fit : Page → Bool
counts_fit page = leb (next_free page) entries_per_page

-- list no longer than used + erased
abbrev pub length_fits : Page → Bool
length_fits page = leb page.len (next_free page)

-- the map's Written entries no more than used
abbrev pub written_fits : Page → Bool
written_fits page = leb (count_in Written (states_of page.map)) page.used

-- listed indices under 126, hashes under 2^24
abbrev pub listed_fit : Page → Bool
listed_fit page = every place_fits (in_use page)

-- list places behind its length zero
abbrev pub behind_zero : Page → Bool
behind_zero page = every place_zero (drop page.len page.list)

-- counts, sequence, version and header CRC 0, list empty, map all 0xFF
abbrev pub is_blank : Page → Bool
is_blank page =
    eqb page.used 0 && (eqb page.erased 0 && (eqb page.sequence 0 && (eqb page.version 0
    && (eqb page.crc 0 && (eqb page.len 0 && all_ones page.map)))))

-- if Uninitialized, blank
abbrev pub blank_fits : Page → Bool
blank_fits page = not (is_uninitialized page.state) || is_blank page

unfoldable pub fit_to_use : Page → Bool
fit_to_use page =
    counts_fit page && (length_fits page && (written_fits page && (listed_fit page && (behind_zero page && blank_fits page))))

-- ---- records

-- of a page whose bytes are all 0xFF; a refused opening hands it back too
abbrev pub uninitialized : Page
uninitialized =
    record {
      state = Uninitialized;
      sequence = 0;
      version = 0;
      crc = 0;
      map = replicate 32 0xFF;
      used = 0;
      erased = 0;
      len = 0;
      list = replicate entries_per_page no_item;
    }

-- an item of `span` entries at next free: marked, counted, listed unless in namespace 0, and Full where no entry is free then
unfoldable pub with_item : Page → ℕ → ℕ → ℕ → Page
with_item page span namespace hash =
    record {
      state = cond (eqb (next_free page + span) entries_per_page) Full page.state;
      sequence = page.sequence;
      version = page.version;
      crc = page.crc;
      map = mark_range Written (next_free page) span page.map;
      used = page.used + span;
      erased = page.erased;
      len = cond (eqb namespace 0) page.len (page.len + 1);
      list = cond (eqb namespace 0) page.list (set page.list page.len (record { hash = hash; index = next_free page }));
    }

-- `span` entries from an index on erased, and the list without that index
unfoldable pub with_erased : Page → ℕ → ℕ → Page
with_erased page index span =
    record {
      state = page.state;
      sequence = page.sequence;
      version = page.version;
      crc = page.crc;
      map = mark_range Erased index span page.map;
      used = page.used - span;
      erased = page.erased + span;
      len = length (without index (in_use page));
      list = padded (without index (in_use page));
    }
