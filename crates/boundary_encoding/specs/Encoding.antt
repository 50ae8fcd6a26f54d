-- The buffers of the C boundary: a record as 675 bytes, an answer as 57, little endian and with no gaps.
--
-- In order: states; places of the list; a record's bytes; the record that bytes hold; an answer's bytes; when a buffer has a wrong size.
-- A byte over 5 is no state. The record that is read then is one that is not fit to use, so that BadRecord comes in 01's place.
-- Not here: that a record and its bytes give each other back, and that no state is unfit (`theorem_round_trip`).
use Rattle.std.specs.Prelude.{Bool, not, cond, List, [], ◌∷◌, ◌++◌, ℕ, zero, suc, eqb, leb, length, take, drop, get_or, replicate}
use Rattle.page.specs.declared.Listed.{Listed}
use Rattle.page.specs.Record.{Page}
use Rattle.sector.specs.declared.PageState.{PageState}
use Rattle.sector.specs.declared.PageState.TheVariants.{Uninitialized, Active, Full, Freeing, Corrupt, Invalid}
use Rattle.sector.specs.declared.Statistics.{Statistics}
use Rattle.sector.specs.Layout.{entries_per_page, number, little_endian, field}

-- ---- states

abbrev pub state_byte : PageState → ℕ
state_byte Uninitialized = 0
state_byte Active = 1
state_byte Full = 2
state_byte Freeing = 3
state_byte Corrupt = 4
state_byte Invalid = 5

-- the six states, in the order of their bytes; Corrupt for a byte that is none
abbrev pub state_of_byte : ℕ → PageState
state_of_byte byte = get_or (Uninitialized ∷ Active ∷ Full ∷ Freeing ∷ Corrupt ∷ Invalid ∷ []) byte Corrupt

abbrev pub is_state : ℕ → Bool
is_state byte = leb byte 5

-- ---- places of the list

abbrev pub place_size : ℕ
place_size = 5

-- hash, then index
abbrev pub place_bytes : Listed → List ℕ
place_bytes place = little_endian 4 place.hash ++ (place.index ∷ [])

unfoldable pub places_bytes : List Listed → List ℕ
places_bytes [] = []
places_bytes (place ∷ places) = place_bytes place ++ places_bytes places

-- the place in the first five bytes
abbrev pub place_of : List ℕ → Listed
place_of bytes = record { hash = number (take 4 bytes); index = get_or bytes 4 0 }

-- the places in the first 5 * n bytes
unfoldable pub places_of : ℕ → List ℕ → List Listed
places_of zero bytes = []
places_of (suc n) bytes = place_of bytes ∷ places_of n (drop place_size bytes)

-- ---- a record's bytes

abbrev pub record_size : ℕ
record_size = 675

-- the list's first byte
abbrev pub list_offset : ℕ
list_offset = 45

-- state 1, sequence 4, version 1, header CRC 4
abbrev pub head_bytes : Page → List ℕ
head_bytes page =
    state_byte page.state ∷ (little_endian 4 page.sequence ++ (page.version ∷ little_endian 4 page.crc))

-- used, erased, length
abbrev pub count_bytes : Page → List ℕ
count_bytes page = page.used ∷ page.erased ∷ page.len ∷ []

unfoldable pub record_bytes : Page → List ℕ
record_bytes page = head_bytes page ++ (page.map ++ (count_bytes page ++ places_bytes page.list))

-- ---- the record that bytes hold

-- 255 entries are more than a page has: with a byte that is no state, no record is fit to use
abbrev pub used_of : List ℕ → ℕ
used_of bytes = cond (is_state (get_or bytes 0 0)) (get_or bytes 42 0) 255

unfoldable pub record_of : List ℕ → Page
record_of bytes =
    record {
      state = state_of_byte (get_or bytes 0 0);
      sequence = number (field 1 4 bytes);
      version = get_or bytes 5 0;
      crc = number (field 6 4 bytes);
      map = field 10 32 bytes;
      used = used_of bytes;
      erased = get_or bytes 43 0;
      len = get_or bytes 44 0;
      list = places_of entries_per_page (drop list_offset bytes);
    }

-- ---- an answer's bytes

abbrev pub answer_size : ℕ
answer_size = 57

-- of a call that has no item
abbrev pub zero_item : List ℕ
zero_item = replicate 32 0

-- of a call that does not count
abbrev pub no_counts : Statistics
no_counts = record { empty = 0; written = 0; erased = 0; illegal = 0 }

-- empty, written, erased, illegal
abbrev pub statistics_bytes : Statistics → List ℕ
statistics_bytes counts =
    little_endian 4 counts.empty ++ (little_endian 4 counts.written
    ++ (little_endian 4 counts.erased ++ little_endian 4 counts.illegal))

-- type byte 1, number 8, item 32, counts 16
unfoldable pub answer_bytes : ℕ → ℕ → List ℕ → Statistics → List ℕ
answer_bytes byte value item counts = (byte ∷ little_endian 8 value) ++ (item ++ statistics_bytes counts)

-- ---- sizes

-- a buffer of fixed size has another length
abbrev pub wrong_size : ℕ → List ℕ → Bool
wrong_size size bytes = not (eqb (length bytes) size)
