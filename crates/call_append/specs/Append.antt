-- Appends (01, 'Append single', 'Append variable'): checks in order, plan, new record.
--
-- In order: what an append has to find; append single; the namespace append; append variable.
use Rattle.std.specs.Prelude.{◌≡◌, Bool, true, false, ◌&&◌, ◌||◌, not, List, [], ◌∷◌, ◌++◌, ℕ, ◌+◌, ◌/◌, ◌≤◌, eqb, ltb, length, take, replicate}
use Rattle.flash.specs.Flash.{Unit4, units}
use Rattle.page.specs.Record.{Page, next_free, fit_to_use, with_item}
use Rattle.page.specs.Writing.{Outcome, bad_image, bad_record, not_active, over_free, outcome, image_after, stops, item_plan}
use Rattle.sector.specs.declared.Refusal.TheVariants.{BadRequest, ValueTooLong}
use Rattle.sector.specs.declared.ItemType.{ItemType}
use Rattle.sector.specs.declared.ItemType.TheVariants.{U8, I8, U16, I16, U32, I32, U64, I64, Sized, Blob, BlobData, BlobIndex, Any}
use Rattle.sector.specs.Answers.{Check}
use Rattle.sector.specs.Item.{item_bytes, hash_of, sized_data}
use Rattle.sector.specs.Layout.{sector_size, entries_per_page, entry_address}
use Rattle.sector.specs.Types.{byte_of, item_type, has_payload}
use Rattle.call_append.specs.declared.Single.{Single}
use Rattle.call_append.specs.declared.Variable.{Variable}

-- ---- what an append has to find

-- an image and a record that take an item of so many entries
pub record Room (image : List ℕ) (page : Page) (span : ℕ) : Type 0 where
  pub whole : length image ≡ sector_size
  pub fit : fit_to_use page ≡ true
  pub room : next_free page + span ≤ entries_per_page

-- ---- append single

-- the eight primitives and BlobIndex
abbrev pub is_single : ItemType → Bool
is_single U8 = true
is_single I8 = true
is_single U16 = true
is_single I16 = true
is_single U32 = true
is_single I32 = true
is_single U64 = true
is_single I64 = true
is_single Sized = false
is_single Blob = false
is_single BlobData = false
is_single BlobIndex = true
is_single Any = false

-- type not one of the call's, or span not 1
abbrev pub single_request : Single → Check
single_request item = (not (is_single (item_type item.kind) && eqb item.span 1), BadRequest)

abbrev pub single_checks : List ℕ → Page → Single → List Check
single_checks image page item =
    bad_image image ∷ bad_record page ∷ not_active page ∷ single_request item ∷ over_free page 1 ∷ []

-- the entry's 32 bytes
abbrev pub single_bytes : Single → List ℕ
single_bytes item = item_bytes item.namespace item.kind 1 item.chunk item.key item.bytes

-- the entry at next free, then its mark, then the state word where no entry is free
unfoldable pub single_plan : Page → Single → List Unit4
single_plan page item =
    item_plan (units (entry_address (next_free page)) (single_bytes item)) (next_free page) 1 page.map

abbrev pub with_single : Page → Single → Page
with_single page item = with_item page 1 item.namespace (hash_of item.namespace item.key item.chunk)

unfoldable pub append_single : List ℕ → Page → Single → ℕ → Outcome
append_single image page item n =
    outcome (single_checks image page item) (stops n (single_plan page item)) page (with_single page item)

unfoldable pub append_single_image : List ℕ → Page → Single → ℕ → List ℕ
append_single_image image page item n = image_after (single_checks image page item) (take n (single_plan page item)) image

-- ---- the namespace append

-- U8 in namespace 0, span 1, no chunk, data byte 0 the value and seven 0xFF
abbrev pub namespace_item : List ℕ → ℕ → Single
namespace_item key value =
    record { namespace = 0; kind = byte_of U8; span = 1; chunk = 0xFF; key = key; bytes = value ∷ replicate 7 0xFF }

-- ---- append variable

-- 1 + length/32 rounded up
abbrev pub span_for : ℕ → ℕ
span_for size = 1 + (size + 31) / 32

-- type not one of the call's, or in namespace 0
abbrev pub variable_request : Variable → Check
variable_request item = (not (has_payload (item_type item.kind)) || eqb item.namespace 0, BadRequest)

-- span over 126, then span over free
abbrev pub variable_checks : List ℕ → Page → Variable → List ℕ → List Check
variable_checks image page item payload =
    bad_image image
    ∷ bad_record page
    ∷ not_active page
    ∷ variable_request item
    ∷ (ltb entries_per_page (span_for (length payload)), ValueTooLong)
    ∷ over_free page (span_for (length payload))
    ∷ []

-- the header entry's 32 bytes
abbrev pub variable_header : Variable → List ℕ → List ℕ
variable_header item payload =
    item_bytes item.namespace item.kind (span_for (length payload)) item.chunk item.key (sized_data payload)

-- header entry, data, marks, state word
unfoldable pub variable_plan : Page → Variable → List ℕ → List Unit4
variable_plan page item payload =
    let start = next_free page in
    item_plan
    (units (entry_address start) (variable_header item payload) ++ units (entry_address (start + 1)) payload)
    start (span_for (length payload)) page.map

abbrev pub with_variable : Page → Variable → List ℕ → Page
with_variable page item payload =
    with_item page (span_for (length payload)) item.namespace (hash_of item.namespace item.key item.chunk)

unfoldable pub append_variable : List ℕ → Page → Variable → List ℕ → ℕ → Outcome
append_variable image page item payload n =
    outcome (variable_checks image page item payload) (stops n (variable_plan page item payload)) page (with_variable page item payload)

unfoldable pub append_variable_image : List ℕ → Page → Variable → List ℕ → ℕ → List ℕ
append_variable_image image page item payload n =
    image_after (variable_checks image page item payload) (take n (variable_plan page item payload)) image
