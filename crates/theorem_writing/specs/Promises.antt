-- Promises of the writing calls (01, 'Programming', 'The record', 'Numbers that come back'), for all images, records and requests that code can make.
--
-- In order: the calls, each read off its own crate; the total; 11, and 1 to 10; PageFull; cleared bits; the order of units; the bytes that are
-- reached; fit records. Purge by index takes no record, and stands beside the others where it writes.
-- Each statement is a type; proofs/ has a proof of each.
use Rattle.std.specs.Prelude.{◌≡◌, Bool, true, false, ◌&&◌, ◌||◌, not, cond, List, [], ◌∷◌, ◌++◌, ◌⊎◌, ℕ, zero, suc, ◌+◌, ◌-◌, ◌*◌, ◌/◌, ◌≤◌, ◌<◌, eqb, leb, ltb, length, take, get_or, replicate, Err}
use Rattle.std.specs.Int.Bits.{bit_and}
use Rattle.flash.specs.Flash.{Unit4, unit, units, run, every}
use Rattle.page.specs.Record.{Page, next_free, free, fit_to_use, with_erased}
use Rattle.page.specs.Writing.{Outcome, bad_image, bad_record, not_active, answered, outcome, image_after, full_units}
use Rattle.sector.specs.declared.Refusal.TheVariants.{CorruptedData, KeyNotFound, PageFull, Stopped}
use Rattle.sector.specs.declared.EntryMapState.TheVariants.{Written}
use Rattle.sector.specs.Answers.{Done, Answer, Check, number_of, accepted}
use Rattle.sector.specs.Item.{loads}
use Rattle.sector.specs.Layout.{entries_per_page, entry_size, map_offset, entry_address, entry_at, entries_of, span_of}
use Rattle.sector.specs.Map.{states_of, mark_range, map_units}
use Rattle.call_page_state.specs.Calls.{initialise_checks, initialise_plan, initialised, initialise, initialise_image, mark_full_checks, mark_full_plan, marked_full, mark_full, mark_full_image}
use Rattle.call_append.specs.declared.Single.{Single}
use Rattle.call_append.specs.declared.Variable.{Variable}
use Rattle.call_append.specs.Append.{single_request, single_checks, single_bytes, single_plan, with_single, append_single, append_single_image, span_for, variable_request, variable_checks, variable_header, variable_plan, with_variable, append_variable, append_variable_image}
use Rattle.call_copy.specs.Copy.{copy_checks, copied_bytes, copy_plan, with_copy, copy_in, copy_in_image}
use Rattle.call_erase.specs.Erase.{erase_checks, erase_plan, erase, erase_image}
use Rattle.call_purge.specs.Purge.{held_span, purge_plan, purge, purge_image}
use Rattle.call_purge_namespace.specs.PurgeNamespace.{to_zero, purge_namespace_checks, purge_namespace_plan, purge_namespace, purge_namespace_image}

-- ---- the calls

-- an item to put: a single (a namespace entry is one), data of any length, or a copy from a source image by index
pub data PutRequest : Type 0 where
  single : Single → PutRequest
  variable : Variable → List ℕ → PutRequest
  copied : List ℕ → ℕ → PutRequest

-- the calls that take a record; a call that cannot be stopped takes no heed of n
pub data Call : Type 0 where
  initialising : ℕ → Call
  marking_full : Call
  putting : PutRequest → Call
  erasing : ℕ → ℕ → Call
  purging : ℕ → Call

abbrev pub checks_of : Call → List ℕ → Page → List Check
checks_of (initialising sequence) image page = initialise_checks image page
checks_of marking_full image page = mark_full_checks image page
checks_of (putting (single item)) image page = single_checks image page item
checks_of (putting (variable item payload)) image page = variable_checks image page item payload
checks_of (putting (copied source i)) image page = copy_checks image page source i
checks_of (erasing index span) image page = erase_checks image page index span
checks_of (purging namespace) image page = purge_namespace_checks image page

-- the units of a call, in order
abbrev pub plan_of : Call → List ℕ → Page → List Unit4
plan_of (initialising sequence) image page = initialise_plan sequence
plan_of marking_full image page = mark_full_plan
plan_of (putting (single item)) image page = single_plan page item
plan_of (putting (variable item payload)) image page = variable_plan page item payload
plan_of (putting (copied source i)) image page = copy_plan page source i
plan_of (erasing index span) image page = erase_plan page index span
plan_of (purging namespace) image page = purge_namespace_plan image page namespace

abbrev pub new_of : Call → Page → Page
new_of (initialising sequence) page = initialised page sequence
new_of marking_full page = marked_full page
new_of (putting (single item)) page = with_single page item
new_of (putting (variable item payload)) page = with_variable page item payload
new_of (putting (copied source i)) page = with_copy page source i
new_of (erasing index span) page = with_erased page index span
new_of (purging namespace) page = page

-- what the call hands back, told to stop after n units
abbrev pub outcome_of : Call → List ℕ → Page → ℕ → Outcome
outcome_of (initialising sequence) image page n = initialise image page sequence n
outcome_of marking_full image page n = mark_full image page
outcome_of (putting (single item)) image page n = append_single image page item n
outcome_of (putting (variable item payload)) image page n = append_variable image page item payload n
outcome_of (putting (copied source i)) image page n = copy_in image page source i n
outcome_of (erasing index span) image page n = erase image page index span
outcome_of (purging namespace) image page n = purge_namespace image page namespace

-- what it leaves in the image
abbrev pub image_of : Call → List ℕ → Page → ℕ → List ℕ
image_of (initialising sequence) image page n = initialise_image image page sequence n
image_of marking_full image page n = mark_full_image image page
image_of (putting (single item)) image page n = append_single_image image page item n
image_of (putting (variable item payload)) image page n = append_variable_image image page item payload n
image_of (putting (copied source i)) image page n = copy_in_image image page source i n
image_of (erasing index span) image page n = erase_image image page index span
image_of (purging namespace) image page n = purge_namespace_image image page namespace

-- a request as code can make it: a key of 16 bytes, and a single's 8 bytes of data
abbrev pub formed : Call → Bool
formed (initialising sequence) = true
formed marking_full = true
formed (putting (single item)) = eqb (length item.key) 16 && eqb (length item.bytes) 8
formed (putting (variable item payload)) = eqb (length item.key) 16
formed (putting (copied source i)) = true
formed (erasing index span) = true
formed (purging namespace) = true

-- ---- the total

-- n at or above the total is the plain call
abbrev pub PlainFromTotal : Type 0
PlainFromTotal =
    (call : Call) (image : List ℕ) (page : Page) (n : ℕ) → length (plan_of call image page) ≤ n
    → (outcome_of call image page n ≡ outcome (checks_of call image page) false page (new_of call page))
    × (image_of call image page n ≡ image_after (checks_of call image page) (plan_of call image page) image)

-- ---- 11, and 1 to 10

-- 11: n was below the total; it leaves the first n units programmed and hands back the incoming record
abbrev pub StoppedLeavesFirst : Type 0
StoppedLeavesFirst =
    (call : Call) (image : List ℕ) (page : Page) (n : ℕ) → (outcome_of call image page n).answer ≡ Err Stopped
    → (n < length (plan_of call image page))
    × (image_of call image page n ≡ run (take n (plan_of call image page)) image)
    × ((outcome_of call image page n).page ≡ page)

-- initialise and the calls that put an item can be told to stop
abbrev pub takes_n : Call → Bool
takes_n (initialising sequence) = true
takes_n marking_full = false
takes_n (putting new) = true
takes_n (erasing index span) = false
takes_n (purging namespace) = false

-- and 11 is what they then answer, where n is below the total and no check refuses
abbrev pub StopsBelowTotal : Type 0
StopsBelowTotal =
    (call : Call) (image : List ℕ) (page : Page) (n : ℕ) → takes_n call ≡ true
    → accepted (checks_of call image page) ≡ true → n < length (plan_of call image page) → outcome_of call image page n ≡ answered (Err Stopped) page

-- 1 to 10
abbrev pub is_refusal : Answer → Bool
is_refusal answer = ltb 0 (number_of answer) && ltb (number_of answer) 11

-- 1 to 10 change nothing; the record handed back is the incoming one
abbrev pub RefusedChangesNothing : Type 0
RefusedChangesNothing =
    (call : Call) (image : List ℕ) (page : Page) (n : ℕ) → is_refusal (outcome_of call image page n).answer ≡ true
    → (image_of call image page n ≡ image) × ((outcome_of call image page n).page ≡ page)

-- nor does a refused purge
abbrev pub RefusedPurgesNothing : Type 0
RefusedPurgesNothing = (image : List ℕ) (index span : ℕ) → is_refusal (purge image) ≡ true → purge_image image index span ≡ image

-- ---- PageFull

-- the entries that an item takes
abbrev pub span_of_new : PutRequest → ℕ
span_of_new (single item) = 1
span_of_new (variable item payload) = span_for (length payload)
span_of_new (copied source i) = span_of (entry_at source i)

-- the checks before those of its span
abbrev pub earlier_checks : PutRequest → List ℕ → Page → List Check
earlier_checks (single item) image page = bad_image image ∷ bad_record page ∷ not_active page ∷ single_request item ∷ []
earlier_checks (variable item payload) image page = bad_image image ∷ bad_record page ∷ not_active page ∷ variable_request item ∷ []
earlier_checks (copied source i) image page =
    bad_image image
    ∷ bad_image source
    ∷ bad_record page
    ∷ not_active page
    ∷ (not (ltb i entries_per_page), CorruptedData)
    ∷ (not (loads (entry_at source i)), KeyNotFound)
    ∷ (eqb (span_of (entry_at source i)) 0 || ltb entries_per_page (i + span_of (entry_at source i)), CorruptedData)
    ∷ []

-- PageFull exactly where no earlier check refuses, the span is at most 126, and it is over the free entries
abbrev pub PageFullExactly : Type 0
PageFullExactly =
    (new : PutRequest) (image : List ℕ) (page : Page) (n : ℕ)
    → (((outcome_of (putting new) image page n).answer ≡ Err PageFull)
    → (accepted (earlier_checks new image page) ≡ true) × (span_of_new new ≤ entries_per_page) × (free page < span_of_new new))
    × (accepted (earlier_checks new image page) ≡ true → span_of_new new ≤ entries_per_page → free page < span_of_new new
    → (outcome_of (putting new) image page n).answer ≡ Err PageFull)

-- ---- cleared bits

-- no bit that was cleared is set, and the image keeps its length
abbrev pub SetsNoBit : List ℕ → List ℕ → Type 0
SetsNoBit before after =
    (length after ≡ length before) × ((i : ℕ) → bit_and (get_or before i 0) (get_or after i 0) ≡ get_or after i 0)

-- no call sets a cleared bit, at any n
abbrev pub OnlyClearsBits : Type 0
OnlyClearsBits = (call : Call) (image : List ℕ) (page : Page) (n : ℕ) → SetsNoBit image (image_of call image page n)

abbrev pub PurgeOnlyClearsBits : Type 0
PurgeOnlyClearsBits = (image : List ℕ) (index span : ℕ) → SetsNoBit image (purge_image image index span)

-- ---- the order of units

-- a write: where it lies, and its units
pub record Write : Type 0 where
  pub from : ℕ
  pub to : ℕ
  pub plan : List Unit4

-- units of four bytes, each at or after the end of the one before, from a place up to another
unfoldable pub rises : ℕ → ℕ → List Unit4 → Bool
rises from to [] = true
rises from to (unit address bytes ∷ plan) =
    leb from address && (leb (address + 4) to && (eqb (length bytes) 4 && rises (address + 4) to plan))

abbrev pub in_order : Write → Bool
in_order write = rises write.from write.to write.plan

-- the map's units that hold the marks of a range
abbrev pub marking : ℕ → ℕ → List Unit4 → Write
marking start span marks =
    record { from = map_offset + 4 * (start / 16); to = map_offset + 4 * ((start + span - 1) / 16 + 1); plan = marks }

-- the units of an item's bytes
abbrev pub entry_units : PutRequest → Page → List Unit4
entry_units (single item) page = units (entry_address (next_free page)) (single_bytes item)
entry_units (variable item payload) page =
    units (entry_address (next_free page)) (variable_header item payload) ++ units (entry_address (next_free page + 1)) payload
entry_units (copied source i) page = units (entry_address (next_free page)) (copied_bytes source i)

-- its own entries, then the marks of its range, then the state word
abbrev pub item_writes : PutRequest → Page → List Write
item_writes new page =
    record { from = entry_address (next_free page); to = entry_address (next_free page + span_of_new new); plan = entry_units new page }
    ∷ marking (next_free page) (span_of_new new)
    (map_units (next_free page) (span_of_new new) (mark_range Written (next_free page) (span_of_new new) page.map))
    ∷ record { from = 0; to = 4; plan = full_units (next_free page + span_of_new new) }
    ∷ []

-- one for each entry that is zeroed, from entry i on
unfoldable pub zero_writes : ℕ → List Bool → List Write
zero_writes i [] = []
zero_writes i (z ∷ zs) =
    record { from = entry_address i; to = entry_address (suc i); plan = cond z (units (entry_address i) (replicate entry_size 0)) [] } ∷ zero_writes (suc i) zs

-- the writes of a call: initialise and mark full the header alone, erase the marks of its range alone, purge by namespace the entries that it zeroes alone
abbrev pub writes_of : Call → List ℕ → Page → List Write
writes_of (initialising sequence) image page = record { from = 0; to = 32; plan = initialise_plan sequence } ∷ []
writes_of marking_full image page = record { from = 0; to = 4; plan = mark_full_plan } ∷ []
writes_of (putting new) image page = item_writes new page
writes_of (erasing index span) image page = marking index span (erase_plan page index span) ∷ []
writes_of (purging namespace) image page = zero_writes 0 (to_zero namespace zero false (states_of page.map) (entries_of image))

-- the units of some writes, one write after the other
abbrev pub units_of : List Write → List Unit4
units_of [] = []
units_of (write ∷ writes) = write.plan ++ units_of writes

-- the plan is those writes in that order, and units rise within each: so bytes come before marks, and marks before the state word
abbrev pub WritesInOrder : Type 0
WritesInOrder =
    (call : Call) (image : List ℕ) (page : Page) → formed call ≡ true
    → (units_of (writes_of call image page) ≡ plan_of call image page) × (every in_order (writes_of call image page) ≡ true)

-- purge programs its own entries, in rising address
abbrev pub PurgeInOrder : Type 0
PurgeInOrder = (index span : ℕ) → rises (entry_address index) (entry_address (index + held_span index span)) (purge_plan index span) ≡ true

-- ---- the bytes that are reached

-- a byte outside a write that has units
abbrev pub outside : ℕ → Write → Bool
outside i write = ltb i write.from || (leb write.to i || eqb (length write.plan) 0)

-- no byte outside its writes is altered, at any n
abbrev pub AltersNothingElse : Type 0
AltersNothingElse =
    (call : Call) (image : List ℕ) (page : Page) (n : ℕ) → formed call ≡ true
    → (i : ℕ) → every (outside i) (writes_of call image page) ≡ true → get_or (image_of call image page n) i 0 ≡ get_or image i 0

-- purge alters its own entries alone
abbrev pub PurgesItsEntries : Type 0
PurgesItsEntries =
    (image : List ℕ) (index span i : ℕ) → (i < entry_address index) ⊎ (entry_address (index + held_span index span) ≤ i)
    → get_or (purge_image image index span) i 0 ≡ get_or image i 0

-- an index over 125 does nothing
abbrev pub PurgesNothingPast : Type 0
PurgesNothingPast = (image : List ℕ) (index span : ℕ) → entries_per_page ≤ index → purge_image image index span ≡ image

-- ---- fit records

-- a record as code holds it: a map of 32 bytes, a list of 126 places
abbrev pub AsInCode : Page → Type 0
AsInCode page =
    (length page.map ≡ 32) × (every (λ (byte : ℕ). ltb byte 256) page.map ≡ true) × (length page.list ≡ entries_per_page)

-- done calls hand back fit records
abbrev pub DoneHandsBackFit : Type 0
DoneHandsBackFit =
    (call : Call) (image : List ℕ) (page : Page) (n : ℕ) → AsInCode page
    → (outcome_of call image page n).answer ≡ Done → fit_to_use (outcome_of call image page n).page ≡ true
