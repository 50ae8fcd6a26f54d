-- Demand 3: what a page holds after any history, and after a power cut in one more append or copy.
--
-- In order: the demand in plain words, each sentence the statement below it; then initialise cut short; then opening itself cut short.
-- A cut after n whole units of a call leaves what the call leaves when told to stop after n: `image_of (call_of write) image page n`.
-- What opening finds is the reading's kept items: index and bytes of each, namespace entries included.
-- Each statement is a type; proofs/ has a proof of each.
-- Assumes that a unit is done or not, and that a byte is stored as old AND new.
use Rattle.std.specs.Prelude.{◌≡◌, true, cond, ◌⊎◌, ℕ, ◌+◌, ◌≤◌, ◌<◌, leb, length, take, drop, Err}
use mathlib.Core.List.{List, [], ◌∷◌, ◌++◌, Memᴰ}
use Rattle.page.specs.Record.{Page, next_free, fit_to_use, uninitialized}
use Rattle.page.specs.Writing.{answered}
use Rattle.sector.specs.declared.Refusal.TheVariants.{CorruptedData, Stopped}
use Rattle.sector.specs.Answers.{Done, accepted}
use Rattle.sector.specs.Layout.{entries_per_page, map_offset, items_offset, entry_at}
use Rattle.sector.specs.Types.{item_type, has_payload}
use Rattle.call_load.specs.Load.{load_item}
use Rattle.call_load_data.specs.Payload.{rounded_up, data_answer, data_output}
use Rattle.call_append.specs.declared.Variable.{Variable}
use Rattle.call_page_state.specs.Calls.{initialise_checks, initialise_plan, initialise, initialise_image}
use Rattle.call_erase.specs.Erase.{erase, erase_image}
use Rattle.theorem_writing.specs.Promises.{SetsNoBit, AsInCode, outcome_of, image_of, entry_units}
use Rattle.opening_reading.specs.Reading.{Item, item}
use Rattle.opening_found.specs.Found.{kept_items}
use Rattle.opening.specs.Opening.{header_of, opening, opening_image, opening_stopped_image}
use Rattle.theorem_power_cut.specs.History.{Sector, VariableRequest, AppendOrCopy, a_variable, entries_of_write, new_item, History, call_of, put_request}

-- ---- the demand

-- at any point of a history opening is accepted, finds exactly the items put and not erased, hands back exactly the record at hand, and changes no byte
abbrev pub FindsWhatWasPut : Type 0
FindsWhatWasPut =
    (image : List ℕ) (page : Page) (items : List Item) → History image page items
    → (kept_items image ≡ items) × (opening image ≡ answered Done page) × (opening_image image ≡ image)

-- each item put and not erased loads by its index
abbrev pub LoadsWhatWasPut : Type 0
LoadsWhatWasPut =
    (image : List ℕ) (page : Page) (items : List Item) → History image page items
    → (index : ℕ) (entries : List (List ℕ)) → Memᴰ (item index entries) items
    → load_item image index ≡ record { answer = Done; item = header_of entries }

-- and data with its bytes, into any output that takes them
abbrev pub LoadsData : Type 0
LoadsData =
    (image : List ℕ) (page : Page) (items : List Item) → History image page items
    → (request : Variable) (payload : List ℕ) (ok : VariableRequest request payload) (index : ℕ)
    → has_payload (item_type request.kind) ≡ true
    → Memᴰ (item index (entries_of_write (a_variable request payload ok))) items
    → (output : List ℕ) → rounded_up (length payload) ≤ length output
    → (data_answer image index (length output) ≡ record { answer = Done; size = length payload })
    × (take (length payload) (data_output image index output) ≡ payload)

-- the record at hand is fit to use, right after opening too: no call refuses it as BadRecord
abbrev pub RecordIsFit : Type 0
RecordIsFit = (image : List ℕ) (page : Page) (items : List Item) → History image page items → fit_to_use page ≡ true

-- a write begins: no check refuses it
abbrev pub Begins : AppendOrCopy → List ℕ → Page → ℕ → Type 0
Begins write image page n = ((outcome_of (call_of write) image page n).answer ≡ Done) ⊎ ((outcome_of (call_of write) image page n).answer ≡ Err Stopped)

-- one more append or copy, cut after any n: opening is accepted; it finds the earlier items where n is at or before the last entry unit,
-- and those and the new one, whole, from the first entry-map unit on
abbrev pub AbsentOrWhole : Type 0
AbsentOrWhole =
    (image : List ℕ) (page : Page) (items : List Item) → History image page items
    → (write : AppendOrCopy) (n : ℕ) → Begins write image page n
    → ((opening (image_of (call_of write) image page n)).answer ≡ Done)
    × (kept_items (image_of (call_of write) image page n)
    ≡ cond (leb n (length (entry_units (put_request write) page))) items (items ++ (new_item write page ∷ [])))

-- no write of it, at any n, sets a cleared bit or alters another entry's bytes
abbrev pub AltersNoOtherEntry : Type 0
AltersNoOtherEntry =
    (image : List ℕ) (page : Page) (items : List Item) → History image page items
    → (write : AppendOrCopy) (n : ℕ) → Begins write image page n
    → SetsNoBit image (image_of (call_of write) image page n)
    × ((i : ℕ) → i < entries_per_page → (i < next_free page) ⊎ (next_free page + length (entries_of_write write) ≤ i)
    → entry_at (image_of (call_of write) image page n) i ≡ entry_at image i)

-- nor does an erasure set a cleared bit, and it alters no entry's bytes
abbrev pub ErasesMarksAlone : Type 0
ErasesMarksAlone =
    (image : List ℕ) (page : Page) (items : List Item) → History image page items
    → (index : ℕ) (entries : List (List ℕ)) → Memᴰ (item index entries) items
    → (erase image page index (length entries)).answer ≡ Done
    → SetsNoBit image (erase_image image page index (length entries))
    × ((i : ℕ) → i < entries_per_page → entry_at (erase_image image page index (length entries)) i ≡ entry_at image i)

-- ---- initialise

-- initialise begun and cut after any n: the page opens as Uninitialized, as CorruptedData, or is the finished page
abbrev pub InitialiseCut : Type 0
InitialiseCut =
    (image : List ℕ) (page : Page) (sequence n : ℕ) → sequence < 0x1_0000_0000 → accepted (initialise_checks image page) ≡ true
    → (opening (initialise_image image page sequence n) ≡ answered Done uninitialized)
    ⊎ ((opening (initialise_image image page sequence n) ≡ answered (Err CorruptedData) uninitialized)
    ⊎ (initialise_image image page sequence n ≡ initialise_image image page sequence (length (initialise_plan sequence))))

-- the finished page opens with the record that initialise hands back; it holds no item, and opening changes no byte: it is as opening leaves a page
abbrev pub FinishedPageOpens : Type 0
FinishedPageOpens =
    (image : List ℕ) (page : Page) (sequence n : ℕ) → sequence < 0x1_0000_0000 → AsInCode page → (initialise image page sequence n).answer ≡ Done
    → (opening (initialise_image image page sequence n) ≡ initialise image page sequence n)
    × (kept_items (initialise_image image page sequence n) ≡ [])
    × (opening_image (initialise_image image page sequence n) ≡ initialise_image image page sequence n)

-- ---- opening

-- header and entries stay, and no bit that was cleared is set
abbrev pub MapAlone : List ℕ → List ℕ → Type 0
MapAlone image after =
    SetsNoBit image after × (take map_offset after ≡ take map_offset image) × (drop items_offset after ≡ drop items_offset image)

-- opening programs the map alone, and only by clearing bits, told to stop after any n
abbrev pub OpeningMarksAlone : Type 0
OpeningMarksAlone = (image : List ℕ) → MapAlone image (opening_image image) × ((n : ℕ) → MapAlone image (opening_stopped_image image n))

-- cut after any n, and opened again, it gives the answer, record, image and items of one whole opening
abbrev pub OpeningCut : Type 0
OpeningCut =
    (image : List ℕ) (n : ℕ) → Sector image
    → (opening (opening_stopped_image image n) ≡ opening image)
    × (opening_image (opening_stopped_image image n) ≡ opening_image image)
    × (kept_items (opening_stopped_image image n) ≡ kept_items image)
