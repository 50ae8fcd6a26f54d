-- The starred edges (01, 'Both sides of each edge'): one table, in 01's order, of what the definitions give and what 01 says.
--
-- In order: the pages and requests of the table; the table; the statement. The edges without a star are run (crates test_map, test_load, test_writing).
-- A mark's byte is as 01 has it where the other marks in it, and the four spare bits, are still 1.
use Rattle.std.specs.Prelude.{◌≡◌, Bool, true, false, ◌&&◌, cond, List, [], ◌∷◌, ◌++◌, ℕ, eqb, length, take, get_or, replicate, set}
use Rattle.flash.specs.Flash.{every, program}
use Rattle.page.specs.Record.{Page, uninitialized}
use Rattle.sector.specs.declared.EntryMapState.{EntryMapState}
use Rattle.sector.specs.declared.EntryMapState.TheVariants.{Empty, Written, Erased}
use Rattle.sector.specs.declared.PageState.TheVariants.{Active, Full}
use Rattle.sector.specs.Answers.{number_of}
use Rattle.sector.specs.Header.{word_of}
use Rattle.sector.specs.Item.{item_bytes}
use Rattle.sector.specs.Layout.{sector_size, entry_address, entry_at, map_of, little_endian, span_of, same_bytes}
use Rattle.sector.specs.Map.{bits_of, state_at, mark_range}
use Rattle.call_page_state.specs.Calls.{initialised, initialise_image}
use Rattle.call_append.specs.declared.Single.{Single}
use Rattle.call_append.specs.declared.Variable.{Variable}
use Rattle.call_append.specs.Append.{append_single, append_single_image, single_plan, single_bytes, append_variable, append_variable_image, variable_header, variable_plan, span_for}
use Rattle.call_erase.specs.Erase.{erase_image}
use Rattle.call_purge.specs.Purge.{purge_image}
use Rattle.call_load_data.specs.Payload.{data_answer}
use Rattle.call_load.specs.Load.{load_item}
use Rattle.opening_reading.specs.Reading.{Item, item, joined}
use Rattle.opening_found.specs.Found.{kept_items}
use Rattle.opening.specs.Opening.{opening_image}

-- ---- pages and requests

-- a page just initialised: its record, its image
abbrev pub fresh_page : Page
fresh_page = initialised uninitialized 0

abbrev pub fresh_image : List ℕ
fresh_image = initialise_image (replicate sector_size 0xFF) uninitialized 0 8

-- an Active page whose first entries are in one state, so many used, so many erased
abbrev pub page_with : EntryMapState → ℕ → ℕ → ℕ → Page
page_with state n used erased =
    record {
      state = Active;
      sequence = 0;
      version = 0xFE;
      crc = fresh_page.crc;
      map = mark_range state 0 n (replicate 32 0xFF);
      used = used;
      erased = erased;
      len = 0;
      list = fresh_page.list;
    }

abbrev pub key : List ℕ
key = 0x75 ∷ replicate 15 0

abbrev pub single : Single
single = record { namespace = 1; kind = 0x01; span = 1; chunk = 0xFF; key = key; bytes = 2 ∷ replicate 7 0xFF }

abbrev pub sized : Variable
sized = record { namespace = 1; kind = 0x21; chunk = 0xFF; key = key }

-- the fresh image with 33 bytes appended
abbrev pub image33 : List ℕ
image33 = append_variable_image fresh_image fresh_page sized (replicate 33 7) 100

-- next free 15, with 32 bytes begun and cut after n units
abbrev pub cut15 : ℕ → List ℕ
cut15 n =
    let page = page_with Erased 15 0 15 in
    append_variable_image (program fresh_image 32 page.map) page sized (replicate 32 7) n

-- a header that tells of a payload of this size in a span of 3, on a fresh page
abbrev pub size_at_span3 : ℕ → List ℕ
size_at_span3 size =
    program fresh_image 64 (item_bytes 1 0x21 3 0xFF key (little_endian 2 size ++ (0xFF ∷ 0xFF ∷ little_endian 4 0)))

-- type byte 0x05, with the CRC of an item whose type byte is another
abbrev pub type05 : ℕ → List ℕ
type05 crc_over = program fresh_image 64 (set (item_bytes 1 crc_over 1 0xFF key (replicate 8 0)) 1 0x05)

-- ---- the table

-- what the definitions give, and what 01 says
abbrev pub Edge : Type 0
Edge = ℕ × ℕ

abbrev pub holds : Bool → ℕ
holds test = cond test 1 0

-- the same index, and the same bytes
abbrev pub same_item : Item → Item → Bool
same_item (item i entries) (item j others) = eqb i j && same_bytes (joined entries) (joined others)

-- as many items, and the same
abbrev pub same_items : List Item → List Item → Bool
same_items [] others = eqb (length others) 0
same_items (x ∷ xs) [] = false
same_items (x ∷ xs) (y ∷ ys) = same_item x y && same_items xs ys

-- an entry's bits in the map
abbrev pub marks_at : List ℕ → ℕ → ℕ
marks_at image i = bits_of (state_at (map_of image) i)

abbrev pub fresh_edges : List Edge
fresh_edges =
    -- fresh page, single: entry at byte 64, map byte 0 is 0xFE, 9 units
    (holds (same_bytes (entry_at (append_single_image fresh_image fresh_page single 100) 0) (single_bytes single)), 1)
    ∷ (get_or (append_single_image fresh_image fresh_page single 100) 32 0, 0xFE)
    ∷ (length (single_plan fresh_page single), 9)
    -- 33 bytes on a fresh page: span 3, map byte 0 is 0xEA; 18 units, 17 if the last byte is 0xFF; erased: 0xC0
    ∷ (span_of (entry_at image33 0), 3)
    ∷ (get_or image33 32 0, 0xEA)
    ∷ (length (variable_plan fresh_page sized (replicate 33 7)), 18)
    ∷ (length (variable_plan fresh_page sized (replicate 32 7 ++ (0xFF ∷ []))), 17)
    ∷ (get_or (erase_image image33 (append_variable fresh_image fresh_page sized (replicate 33 7) 100).page 0 3) 32 0, 0xC0)
    -- empty data: span 1, 9 units
    ∷ (span_for 0, 1)
    ∷ (length (variable_plan fresh_page sized []), 9)
    ∷ []

abbrev pub full_edges : List Edge
full_edges =
    -- 4,000 bytes fresh: span 126, Full, 1,017 units
    (span_for 4000, 126)
    ∷ (word_of (append_variable fresh_image fresh_page sized (replicate 4000 7) 1017).page.state, word_of Full)
    ∷ (length (variable_plan fresh_page sized (replicate 4000 7)), 1017)
    -- 4,001: ValueTooLong, even with no entry free
    ∷ (number_of (append_variable fresh_image fresh_page sized (replicate 4001 7) 0).answer, 5)
    ∷ (number_of (append_variable fresh_image (page_with Written 126 126 0) sized (replicate 4001 7) 0).answer, 5)
    -- next free 125, 1 data byte: PageFull; single there: 10 units, Full; with 124 Written, map byte 31 is 0xFA
    ∷ (number_of (append_variable fresh_image (page_with Written 125 125 0) sized (7 ∷ []) 0).answer, 6)
    ∷ (length (single_plan (page_with Written 125 125 0) single), 10)
    ∷ (word_of (append_single fresh_image (page_with Written 125 125 0) single 10).page.state, word_of Full)
    ∷ (get_or (append_single_image fresh_image (page_with Written 125 125 0) single 10) 63 0, 0xFA)
    ∷ []

abbrev pub cut_edges : List Edge
cut_edges =
    -- 32 bytes not all 0xFF at next free 15: 18 units
    (length (variable_plan (page_with Erased 15 0 15) sized (replicate 32 7)), 18)
    -- cut at 16: absent, 15 and 16 Erased
    ∷ (length (kept_items (cut15 16)), 0)
    ∷ (marks_at (opening_image (cut15 16)) 15, bits_of Erased)
    ∷ (marks_at (opening_image (cut15 16)) 16, bits_of Erased)
    -- cut at 17: whole, 16 becomes Written
    ∷ (holds (same_items (kept_items (cut15 17)) (item 15 (variable_header sized (replicate 32 7) ∷ replicate 32 7 ∷ []) ∷ [])), 1)
    ∷ (marks_at (cut15 17) 16, bits_of Empty)
    ∷ (marks_at (opening_image (cut15 17)) 16, bits_of Written)
    ∷ []

abbrev pub read_edges : List Edge
read_edges =
    -- size 64 at span 3 loads, 65 is CorruptedData
    (number_of (data_answer (size_at_span3 64) 0 64).answer, 0)
    ∷ ((data_answer (size_at_span3 64) 0 64).size, 64)
    ∷ (number_of (data_answer (size_at_span3 65) 0 68).answer, 9)
    -- purge at 125, span 9: one entry; at 126: none
    ∷ (holds (same_bytes (entry_at (purge_image fresh_image 125 9) 125) (replicate 32 0)), 1)
    ∷ (holds (same_bytes (take (entry_address 125) (purge_image fresh_image 125 9)) (take (entry_address 125) fresh_image)), 1)
    ∷ (holds (same_bytes (purge_image fresh_image 126 9) fresh_image), 1)
    -- type byte 0x05: KeyNotFound with its CRC made over 0xFF, as 02's R-5 has it; and made over 0x05
    ∷ (number_of (load_item (type05 0xFF) 0).answer, 7)
    ∷ (number_of (load_item (type05 0x05) 0).answer, 7)
    ∷ []

-- ---- the statement

-- every edge of the table is as 01 says
abbrev pub StarredEdges : Type 0
StarredEdges = every (λ edge. eqb edge.0 edge.1) (fresh_edges ++ (full_edges ++ (cut_edges ++ read_edges))) ≡ true
