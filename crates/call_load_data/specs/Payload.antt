-- Reading the data after a header (01, 'Load data'): the item is loaded first, and the map is not consulted.
--
-- In order: the checks; the answer and the output. The payload CRC is not checked here.
use Rattle.std.specs.Prelude.{not, cond, List, [], ◌∷◌, ◌++◌, ℕ, ◌+◌, ◌-◌, ◌*◌, ◌/◌, eqb, ltb, length, take, drop}
use Rattle.sector.specs.declared.Refusal.TheVariants.{ItemTypeMismatch, CorruptedData}
use Rattle.sector.specs.Answers.{Answer, Done, Check, refusal, accepted}
use Rattle.sector.specs.Layout.{entries_per_page, entry_size, entry_address, entry_at, span_of, size_of, type_byte_of}
use Rattle.sector.specs.Types.{item_type, has_payload}
use Rattle.call_load.specs.Load.{load_checks}

-- what load data answers: the size of the data that was read, 0 where the answer is not Done
pub record DataLoaded : Type 0 where
  pub answer : Answer
  pub size : ℕ

-- a size rounded up to the read unit
abbrev pub rounded_up : ℕ → ℕ
rounded_up size = (size + 3) / 4 * 4

-- type not Sized, Blob or BlobData; span 0; index + span over 126; size over 32 * (span - 1); output shorter than the rounded size
abbrev pub payload_checks : List ℕ → ℕ → ℕ → List Check
payload_checks entry i room =
    (not (has_payload (item_type (type_byte_of entry))), ItemTypeMismatch (type_byte_of entry))
    ∷ (eqb (span_of entry) 0, CorruptedData)
    ∷ (ltb entries_per_page (i + span_of entry), CorruptedData)
    ∷ (ltb (entry_size * (span_of entry - 1)) (size_of entry), CorruptedData)
    ∷ (ltb room (rounded_up (size_of entry)), CorruptedData)
    ∷ []

-- load's, then the payload's
abbrev pub data_checks : List ℕ → ℕ → ℕ → List Check
data_checks image i room = load_checks image i ++ payload_checks (entry_at image i) i room

-- the answer carries the size
unfoldable pub data_answer : List ℕ → ℕ → ℕ → DataLoaded
data_answer image i room =
    cond (accepted (data_checks image i room))
    (record { answer = Done; size = size_of (entry_at image i) })
    (record { answer = refusal (data_checks image i room); size = 0 })

-- the rounded length from the sector, after the header; the rest stays, and all of it on a refusal
unfoldable pub data_output : List ℕ → ℕ → List ℕ → List ℕ
data_output image i output =
    let n = rounded_up (size_of (entry_at image i)) in
    cond (accepted (data_checks image i (length output)))
    (take n (drop (entry_address (i + 1)) image) ++ drop n output)
    output
