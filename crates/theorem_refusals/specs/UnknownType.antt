-- An unknown type byte is never an item (02, R-5): no call takes its entry for one, whatever the entry's CRC was made over.
--
-- In order: what is unknown; which entries load; the calls; the reading.
-- Each statement is a type; proofs/ has a proof of each.
use Rattle.std.specs.Prelude.{◌≡◌, true, false, ◌&&◌, not, ℕ, ◌<◌, length, Err}
use mathlib.Core.List.{List, Memᴰ}
use Rattle.flash.specs.Flash.{all_ones}
use Rattle.page.specs.Record.{Page, fit_to_use}
use Rattle.page.specs.Writing.{answered}
use Rattle.sector.specs.declared.Refusal.TheVariants.{KeyNotFound}
use Rattle.sector.specs.declared.EntryMapState.{EntryMapState}
use Rattle.sector.specs.declared.EntryMapState.TheVariants.{Written}
use Rattle.sector.specs.declared.ItemType.{ItemType}
use Rattle.sector.specs.Header.{is_active}
use Rattle.sector.specs.Item.{crc_right, loads}
use Rattle.sector.specs.Layout.{sector_size, entries_per_page, entry_size, entry_at, type_byte_of}
use Rattle.sector.specs.Types.{byte_of}
use Rattle.call_copy.specs.Copy.{copy_in, copy_in_image}
use Rattle.call_load.specs.Load.{load_item, refused_item}
use Rattle.call_load_data.specs.Payload.{data_answer}
use Rattle.call_purge_namespace.specs.PurgeNamespace.{purged, passed}
use Rattle.opening_reading.specs.declared.Reason.TheVariants.{UnknownType}
use Rattle.opening_reading.specs.declared.Verdict.TheVariants.{RefusedEntry}
use Rattle.opening_reading.specs.Reading.{item, verdict_at}
use Rattle.opening_found.specs.Found.{kept_items}
use Rattle.opening.specs.Opening.{header_of}

-- the type byte is that of none of the thirteen
abbrev pub Unknown : List ℕ → Type 0
Unknown entry = (t : ItemType) → type_byte_of entry ≡ byte_of t → ⊥

-- ---- which entries load

-- none of an unknown type
abbrev pub UnknownNeverLoads : Type 0
UnknownNeverLoads = (entry : List ℕ) → Unknown entry → loads entry ≡ false

-- of the thirteen, Any too, exactly those that are not all 0xFF and whose CRC is right
abbrev pub KnownLoads : Type 0
KnownLoads = (entry : List ℕ) (t : ItemType) → type_byte_of entry ≡ byte_of t → loads entry ≡ (not (all_ones entry) && crc_right entry)

-- ---- the calls

-- load and load data answer KeyNotFound
abbrev pub UnknownIsNotFound : Type 0
UnknownIsNotFound =
    (image : List ℕ) (index room : ℕ) → length image ≡ sector_size → index < entries_per_page → Unknown (entry_at image index)
    → (load_item image index ≡ refused_item (Err KeyNotFound)) × (data_answer image index room ≡ record { answer = Err KeyNotFound; size = 0 })

-- copy in too, where none of its earlier checks refuses
abbrev pub UnknownIsNotCopied : Type 0
UnknownIsNotCopied =
    (image : List ℕ) (page : Page) (source : List ℕ) (index n : ℕ)
    → length image ≡ sector_size → length source ≡ sector_size → fit_to_use page ≡ true → is_active page.state ≡ true → index < entries_per_page
    → Unknown (entry_at source index)
    → (copy_in image page source index n ≡ answered (Err KeyNotFound) page) × (copy_in_image image page source index n ≡ image)

-- purge by namespace neither zeroes it as a header nor takes its span
abbrev pub UnknownIsNotPurged : Type 0
UnknownIsNotPurged =
    (namespace : ℕ) (state : EntryMapState) (entry : List ℕ) → Unknown entry
    → (purged namespace state entry ≡ false) × (passed state entry ≡ 0)

-- ---- the reading

-- a Written entry is refused, by a reason of its own
abbrev pub UnknownIsRefused : Type 0
UnknownIsRefused =
    (entry : List ℕ) (states : List EntryMapState) (entries : List (List ℕ)) → length entry ≡ entry_size → Unknown entry
    → verdict_at Written entry states entries ≡ RefusedEntry UnknownType

-- every item that a page keeps has one of the thirteen
abbrev pub KeptIsKnown : Type 0
KeptIsKnown =
    (image : List ℕ) (index : ℕ) (entries : List (List ℕ)) → Memᴰ (item index entries) (kept_items image)
    → (t : ItemType) × (type_byte_of (header_of entries) ≡ byte_of t)
